use Rattle.std.proofs.Common.{◌≡◌}
use Rattle.indexmap.specs.IndexMap.{hasher_of}
use Rattle.mp_tx.proofs.Blocks.{IsSpent}
use Rattle.mp_tx.proofs.ledger.outputs.Outputs.spend.Given as goal

abbrev pub invariant-loop-place : goal.invariant-loop-place
invariant-loop-place l = record {
  spent : IsSpent l.fn.self.utxo l.fn.spent l.changes.entries l.place;
  salt : hasher_of l.changes ≡ hasher_of l.fn.changes;
}
