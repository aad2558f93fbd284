use Rattle.std.proofs.Common.{subst}
use Rattle.std.specs.Prelude.{Err}
use Rattle.std.specs.Process.{exit_status}
use Rattle.mp_serve.specs.declared.conversation.Conversation.{Conversation}
use Rattle.mp_main.specs.Status.{EndsAs}
use Rattle.mp_main.specs.Replay.{Unread, IsReplayAudited}
use Rattle.mp_main.proofs.Ends.{keeps}
use Rattle.mp_main.proofs.Replaying.{replayed}
use Rattle.mp_main.proofs.replays.replay_text.Goals as goal

pub returns-in-Ok : goal.returns-in-Ok
returns-in-Ok g c =
    let before = g.W.Write.contents c.args.writer.now in
    let after = g.W.Write.contents c.end_replay.new.writer in
    let status = exit_status c.end_replay.result in
    subst (λ (k : Conversation). EndsAs (IsReplayAudited k c.args.text.now before after) status) c.in-Ok.ensures
    (replayed c.in-Ok.conversation c.args.text.now before after c.replay.result status c.replay.ensures.legal c.replay.ensures.fault c.end_replay.ensures)

pub returns-in-Err : goal.returns-in-Err
returns-in-Err g c = (Err Unread, keeps (g.W.Write.contents c.args.writer.now), c.end_fault.ensures)
