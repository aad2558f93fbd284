use Rattle.std.proofs.Common.{◌≡◌}
use Rattle.mp_bundle.specs.Inside.Totals.{first_unlike}
use Rattle.mp_bundle.proofs.totals.first_unlike.Given as goal

-- the remaining entries have the first token that all have
abbrev pub invariant-loop-token : goal.invariant-loop-token
invariant-loop-token l = first_unlike l.token-iterator l.fn.others.entries ≡ first_unlike l.totals.entries l.fn.others.entries
