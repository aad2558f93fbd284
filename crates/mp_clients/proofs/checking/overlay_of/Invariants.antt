use Rattle.std.proofs.Common.{◌≡◌, ◌++◌}
use Rattle.mp_seqpool.specs.Keep.{transactions}
use Rattle.mp_clients.proofs.checking.overlay_of.Given as goal

-- the items so far were applied
abbrev pub invariant-loop-item : goal.invariant-loop-item
invariant-loop-item l =
    (l.overlay.ledger ≡ l.version.pool.ledger)
    × (l.overlay.applied ++ transactions l.item-iterator ≡ transactions l.version.pool.items)
