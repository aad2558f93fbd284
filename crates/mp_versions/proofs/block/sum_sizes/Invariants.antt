use Rattle.std.proofs.Common.{◌≡◌, ◌+◌, drop}
use Rattle.mp_seqpool.specs.Keep.{bytes_of}
use Rattle.mp_seqpool.specs.Item.{items_of}
use Rattle.mp_versions.proofs.block.sum_sizes.Given as goal

-- the bytes so far and those of the items that are left are all the bytes
abbrev pub invariant-loop-item : goal.invariant-loop-item
invariant-loop-item l = l.bytes + bytes_of (items_of (drop l.item-index l.items)) ≡ bytes_of (items_of l.items)
