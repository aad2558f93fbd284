use Rattle.std.proofs.Common.{◌≡◌, fold, take}
use Rattle.indexmap.specs.IndexMap.{hasher_of}
use Rattle.mp_tx.specs.Inside.Changes.{with_earlier}
use Rattle.mp_tx.specs.Inside.Tables.{all_of}
use Rattle.mp_tx.proofs.ledger.layers.join_all.Given as goal

-- the layers before the index are joined, in a table with the same salt
abbrev pub invariant-loop-layer : goal.invariant-loop-layer
invariant-loop-layer l = record {
  noted : l.changes.entries ≡ fold with_earlier l.fn.changes.entries (all_of (take l.layer-index l.layers));
  salt : hasher_of l.changes ≡ hasher_of l.fn.changes;
}
