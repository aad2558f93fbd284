use Rattle.std.proofs.Common.{◌≡◌, ◌++◌, drop, map}
use Rattle.mp_script.specs.View.{paid_to_of}
use Rattle.mp_rules.specs.Scripts.{paid_to}
use Rattle.mp_rules.proofs.scripts.paid_to.Given as goal

-- what is seen so far and the remaining outputs make all
abbrev pub invariant-loop-output : goal.invariant-loop-output
invariant-loop-output l = map paid_to_of l.seen.items ++ map paid_to (drop l.output-index l.outputs) ≡ map paid_to l.outputs
