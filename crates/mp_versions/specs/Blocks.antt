-- Blocks of a pool's transactions.
use Rattle.std.specs.Prelude.{ℕ, List}
use Rattle.std.specs.FinMap.{get}
use mathlib.Core.List.{IsPrefix}
use Rattle.mp_tx.specs.Transaction.{Transaction}
use Rattle.mp_rules.specs.Verifier.{Accepts}
use Rattle.mp_rules.specs.Validity.{Chain}
use Rattle.mp_seqpool.specs.Keep.{transactions}
use Rattle.mp_seqpool.specs.Pool.{Pool}

-- The items may go into a block on the ledger state that the pool has adopted.
pub record IsValidBlock (accepts : Accepts) (p : Pool) (items : List (ℕ × Transaction)) : Type 0 where
  -- they are a prefix of the pool's items: its oldest
  pub begins : IsPrefix items p.items
  -- each transaction is valid after all before it
  pub chained : Chain accepts (get p.ledger.utxo) p.ledger.tick (transactions items)
