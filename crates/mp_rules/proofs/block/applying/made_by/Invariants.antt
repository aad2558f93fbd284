use Rattle.std.proofs.Common.{◌≡◌, ◌++◌, drop}
use Rattle.mp_rules.specs.Block.{made_from}
use Rattle.mp_rules.proofs.block.applying.made_by.Given as goal

-- the outputs so far and the remaining ones are all
abbrev pub invariant-loop-index : goal.invariant-loop-index
invariant-loop-index l = l.made.items ++ made_from l.tx l.index (drop l.index l.output-items) ≡ made_from l.tx 0 l.output-items
