use Rattle.std.proofs.Common.{◌≡◌, take}
use Rattle.mp_seqpool.specs.Item.{items_of}
use Rattle.mp_versions.proofs.layout.growing.longer_chunk.Given as goal

-- the items so far
abbrev pub invariant-loop-other : goal.invariant-loop-other
invariant-loop-other l = items_of l.all.items ≡ items_of (take l.other-index l.items)
