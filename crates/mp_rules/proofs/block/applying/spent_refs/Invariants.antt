use Rattle.std.proofs.Common.{◌≡◌, ◌++◌, drop}
use Rattle.mp_tx.specs.Transaction.{spent_refs}
use Rattle.mp_rules.proofs.block.applying.spent_refs.Given as goal

-- the references so far and those of the remaining inputs are all
abbrev pub invariant-loop-input : goal.invariant-loop-input
invariant-loop-input l = l.spent.items ++ spent_refs (drop l.input-index l.inputs) ≡ spent_refs l.inputs
