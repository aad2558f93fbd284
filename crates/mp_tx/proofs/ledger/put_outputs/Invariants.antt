use Rattle.std.proofs.Common.{◌≡◌, length}
use Rattle.std.specs.Vec.Iter.{into_iter_items, into_iter_len}
use Rattle.indexmap.specs.IndexMap.{hasher_of}
use Rattle.mp_tx.proofs.Repeats.{IsPut}
use Rattle.mp_tx.proofs.ledger.put_outputs.Given as goal

abbrev pub invariant-loop-reference : goal.invariant-loop-reference
invariant-loop-reference l = record {
  put : IsPut l.fn.outputs.items l.map.entries (into_iter_items l.reference-iterator);
  salt : hasher_of l.map ≡ hasher_of l.fn.map;
  len : into_iter_len l.reference-iterator ≡ length (into_iter_items l.reference-iterator);
}
