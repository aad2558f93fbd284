-- Commands to the pool.
use Rattle.std.specs.Prelude.{ℕ, List}
use Rattle.mp_tx.specs.Transaction.{Transaction}
use Rattle.mp_tx.specs.Ledger.{LedgerState}

pub data Command : Type 0 where
  -- add the transaction
  Submit : Transaction → Command
  -- take out the transactions with these ids
  Remove : List (List ℕ) → Command
  -- adopt the ledger state
  Sync : LedgerState → Command
