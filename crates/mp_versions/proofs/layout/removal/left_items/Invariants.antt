use Rattle.std.proofs.Common.{◌≡◌, take}
use Rattle.mp_seqpool.specs.Prepared.{apart}
use Rattle.mp_seqpool.specs.Item.{items_of}
use Rattle.mp_versions.proofs.layout.removal.left_items.Given as goal

-- what remains of the items so far
abbrev pub invariant-loop-item : goal.invariant-loop-item
invariant-loop-item l = items_of l.kept.items ≡ apart l.tickets (items_of (take l.item-index l.items))
