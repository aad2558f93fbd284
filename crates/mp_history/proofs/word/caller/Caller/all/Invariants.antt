use Rattle.std.proofs.Common.{◌≡◌}
use Rattle.mp_history.specs.Caller.{new_callers}
use Rattle.mp_history.proofs.word.caller.Caller.all.Given as goal

abbrev pub invariant-loop-number : goal.invariant-loop-number
invariant-loop-number g l = l.tokens.items ≡ new_callers l.number
