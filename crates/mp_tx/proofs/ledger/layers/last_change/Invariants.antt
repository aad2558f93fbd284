use Rattle.std.proofs.Common.{◌≡◌, take}
use Rattle.std.specs.Prelude.{None}
use Rattle.std.specs.Map.{lookup}
use Rattle.mp_tx.specs.Reference.{same_ref}
use Rattle.mp_tx.specs.Inside.Tables.{all_of}
use Rattle.mp_tx.proofs.ledger.layers.last_change.Given as goal

-- the layers before the index have no change of the reference
abbrev pub invariant-loop-layer : goal.invariant-loop-layer
invariant-loop-layer l = lookup (same_ref l.reference) (all_of (take l.layer-index l.layers)) ≡ None
