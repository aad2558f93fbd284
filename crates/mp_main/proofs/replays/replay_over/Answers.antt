use Rattle.std.proofs.Common.{List, ℕ, subst}
use Rattle.std.specs.Prelude.{Err}
use Rattle.std.specs.Process.{exit_status}
use Rattle.mp_serve.specs.Talk.{new_conversation}
use Rattle.mp_main.specs.Status.{EndsAs}
use Rattle.mp_main.specs.Replay.{Unread, IsReplayAudited}
use Rattle.mp_main.proofs.Ends.{keeps, for_all}
use Rattle.mp_main.proofs.Replaying.{of_bytes}
use Rattle.mp_main.proofs.replays.replay_over.Goals as goal

pub returns-in-Ok : goal.returns-in-Ok
returns-in-Ok g c =
    let P = λ (bytes : List ℕ). EndsAs (IsReplayAudited (new_conversation c.args.signatures c.args.salt 65536) bytes
    (g.W.Write.contents c.args.writer.now) (g.W.Write.contents c.replay_text.new.writer)) (exit_status c.replay_text.result) in
    of_bytes P (g.R.Read.remaining c.args.reader.now) c.in-Ok.text.items c.in-Ok.ensures (subst P c.deref.ensures.value c.replay_text.ensures)

pub returns-in-Err-NoMemory : goal.returns-in-Err-NoMemory
returns-in-Err-NoMemory g c =
    let before = g.W.Write.contents c.args.writer.now in
    for_all
    (λ (bytes : List ℕ). EndsAs (IsReplayAudited (new_conversation c.args.signatures c.args.salt 65536) bytes before before) (exit_status c.end_fault.result))
    (g.R.Read.remaining c.args.reader.now) (λ (bytes : List ℕ). (Err Unread, keeps before, c.end_fault.ensures))

pub returns : goal.returns
returns g c =
    let before = g.W.Write.contents c.args.writer.now in
    for_all
    (λ (bytes : List ℕ). EndsAs (IsReplayAudited (new_conversation c.args.signatures c.args.salt 65536) bytes before before)
    (exit_status c.end_fault-in-Err-Read.result))
    (g.R.Read.remaining c.args.reader.now) (λ (bytes : List ℕ). (Err Unread, keeps before, c.end_fault-in-Err-Read.ensures))
