use Rattle.std.proofs.Common.{◌≡◌, ◌++◌, drop, map}
use Rattle.mp_script.specs.View.{referred_of}
use Rattle.mp_rules.specs.Scripts.{referred}
use Rattle.mp_rules.proofs.scripts.referred.Given as goal

-- what is seen so far and the remaining outputs make all
abbrev pub invariant-loop-output : goal.invariant-loop-output
invariant-loop-output l = map referred_of l.seen.items ++ map referred (drop l.output-index l.outputs) ≡ map referred l.outputs
