use Rattle.std.proofs.Common.{map}
use Rattle.mp_seqpool.specs.Item.{shown}
use Rattle.mp_versions.specs.Inside.KeptItems.{HasTried}
use Rattle.mp_versions.proofs.kept_items.try_all.Given as goal

-- the items so far were tried
abbrev pub invariant-loop-item : goal.invariant-loop-item
invariant-loop-item g l =
    (goal.iterator-loop-item g).can_next l.item-iterator
    × (goal.iterator-loop-item g).is_finite l.item-iterator
    × HasTried (g.V.Verifier.accepts l.verifier) l.ledger (map shown l.yielded) l.kept
