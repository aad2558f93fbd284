use Rattle.std.proofs.Common.{sym, subst, Some, List, ℕ, ◌≡◌}
use Rattle.mp_replay.specs.ServedHistory.{replayed, replay_line}
use Rattle.mp_replay.proofs.Steps.{wrong_answer}
use Rattle.mp_replay.proofs.replaying.replay_step.Goals as goal

pub returns-in-Ok-clause-err : goal.returns-in-Ok-clause-err
returns-in-Ok-clause-err c =
    let new = c.ask_line.new.conversation in
    wrong_answer (replayed c.args.conversation.now c.args.entries) c.args.number c.args.line.now c.args.answer.now c.text.result.now new c.count_entry.result
    (subst (λ (t : List ℕ). replay_line c.args.conversation.now c.args.line.now ≡ Some (new, t)) (sym c.text.ensures) c.in-Ok.ensures.ok)
    c.count_entry.ensures.err
