use Rattle.std.proofs.Common.{◌≡◌, ◌++◌, drop}
use Rattle.mp_rules.specs.Touched.{own_refs_from}
use Rattle.mp_rules.proofs.block.touching.push_own.Given as goal

-- the references so far and those of the remaining outputs are all
abbrev pub invariant-loop-index : goal.invariant-loop-index
invariant-loop-index l = l.touched.items ++ own_refs_from l.tx l.index (drop l.index l.output-items) ≡ l.fn.touched.items ++ own_refs_from l.tx 0 l.output-items
