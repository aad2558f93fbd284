use Rattle.std.proofs.Common.{◌≡◌, ◌++◌, drop, map}
use Rattle.std.specs.Arc.{arc_value}
use Rattle.mp_rules.specs.Touched.{touched_by_all}
use Rattle.mp_rules.proofs.block.touching.touched_by_all.Given as goal

-- the references so far and those of the remaining transactions are all
abbrev pub invariant-loop-tx : goal.invariant-loop-tx
invariant-loop-tx l = l.touched.items ++ touched_by_all (map arc_value (drop l.tx-index l.txs)) ≡ touched_by_all (map arc_value l.txs)
