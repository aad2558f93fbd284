use Rattle.std.proofs.Common.{◌≡◌, ◌++◌, drop}
use Rattle.mp_tx.specs.Transaction.{spent_refs}
use Rattle.mp_rules.proofs.block.touching.push_spent.Given as goal

-- the references so far and those of the remaining inputs are all
abbrev pub invariant-loop-input : goal.invariant-loop-input
invariant-loop-input l = l.touched.items ++ spent_refs (drop l.input-index l.inputs) ≡ l.fn.touched.items ++ spent_refs l.inputs
