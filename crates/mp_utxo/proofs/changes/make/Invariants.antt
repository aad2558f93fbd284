use Rattle.std.proofs.Common.{◌≡◌, ◌+◌, ◌≤◌, length}
use Rattle.indexmap.specs.IndexMap.{spare, hasher_of}
use Rattle.mp_tx.specs.Spelling.{id_of}
use Rattle.mp_utxo.specs.Inside.Changes.{MakesUpTo}
use Rattle.mp_utxo.proofs.changes.make.Given as goal

-- the outputs before the index are recorded, and there is room for the others
abbrev pub invariant-loop-index : goal.invariant-loop-index
invariant-loop-index l = record {
  makes : MakesUpTo l.fn.changes.entries (id_of l.tx) l.index l.place l.changes.entries;
  room : length l.tx.outputs ≤ spare l.changes + l.index;
  salt : hasher_of l.changes ≡ hasher_of l.fn.changes;
}
