-- The state of a pool.
use Rattle.std.specs.Prelude.{ℕ, List}
use Rattle.mp_tx.specs.Transaction.{Transaction}
use Rattle.mp_tx.specs.Ledger.{LedgerState}
use Rattle.mp_utxo.specs.Overlay.{Room}

pub record Pool : Type 0 where
  -- the adopted ledger state
  pub ledger : LedgerState
  -- the transactions with their tickets, oldest first
  pub items : List (ℕ × Transaction)
  -- the last ticket that the pool gave
  pub last : ℕ
  -- the number of changes that were made
  pub changes : ℕ
  -- the greatest number of changes
  pub limit : ℕ
  -- the last ticket when the pool opened
  pub opening_ticket : ℕ

-- A pool with the room in its tables, which a prepared step needs.
pub record Holding : Type 0 where
  pub pool : Pool
  pub room : Room
