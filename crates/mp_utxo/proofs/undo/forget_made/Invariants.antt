use Rattle.std.proofs.Common.{◌≡◌}
use Rattle.indexmap.specs.IndexMap.{hasher_of}
use Rattle.mp_tx.specs.Spelling.{id_of}
use Rattle.mp_utxo.specs.Inside.Changes.{ForgetsUpTo}
use Rattle.mp_utxo.proofs.undo.forget_made.Given as goal

-- the changes of the outputs before the index are removed
abbrev pub invariant-loop-index : goal.invariant-loop-index
invariant-loop-index l = record {
  notes : ForgetsUpTo l.fn.changes.entries (id_of l.tx) l.index l.changes.entries;
  salt : hasher_of l.changes ≡ hasher_of l.fn.changes;
}
