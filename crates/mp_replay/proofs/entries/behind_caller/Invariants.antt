use Rattle.std.proofs.Common.{ℕ, ◌<◌}
use Rattle.mp_replay.specs.ServedHistory.{number_front}
use Rattle.mp_replay.specs.ReplayFault.{HasFront}
use Rattle.mp_replay.proofs.entries.behind_caller.Given as goal

-- the text doesn't begin with one of the callers so far
abbrev pub invariant-loop-caller : goal.invariant-loop-caller
invariant-loop-caller l = (caller : ℕ) → caller < l.caller → HasFront l.text (number_front caller) → ⊥
