use Rattle.std.proofs.Common.{◌≡◌, ◌++◌, drop}
use Rattle.mp_rules.proofs.checked.precheck.Given as goal

-- the outputs so far and the remaining ones are all
abbrev pub invariant-loop-output : goal.invariant-loop-output
invariant-loop-output g l = l.shared.items ++ drop l.output-index l.outputs ≡ l.outputs
