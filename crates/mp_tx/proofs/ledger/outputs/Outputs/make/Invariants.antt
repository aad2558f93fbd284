use Rattle.std.proofs.Common.{◌≡◌, length}
use Rattle.std.specs.Vec.Iter.{into_iter_items, into_iter_len}
use Rattle.indexmap.specs.IndexMap.{hasher_of}
use Rattle.mp_tx.specs.Inside.Changes.{changed}
use Rattle.mp_tx.proofs.Blocks.{IsMade}
use Rattle.mp_tx.proofs.ledger.outputs.Outputs.make.Given as goal

abbrev pub invariant-loop-reference : goal.invariant-loop-reference
invariant-loop-reference l = record {
  made : IsMade l.fn.self.utxo (changed l.fn.self.utxo l.fn.changes.entries) l.fn.made.items (into_iter_items l.reference-iterator) l.changes.entries l.place;
  salt : hasher_of l.changes ≡ hasher_of l.fn.changes;
  len : into_iter_len l.reference-iterator ≡ length (into_iter_items l.reference-iterator);
}
