-- The result of a block.
use Rattle.std.specs.Prelude.{◌≡◌, ℕ, List, Ok}
use Rattle.std.specs.FinMap.{get}
use Rattle.mp_tx.specs.declared.reference.OutRef.{OutRef}
use Rattle.mp_tx.specs.Transaction.{Transaction}
use Rattle.mp_tx.specs.Ledger.{LedgerState}
use Rattle.mp_utxo.specs.Apply.{Unspent, after}
use Rattle.mp_rules.specs.Verifier.{Accepts}
use Rattle.mp_rules.specs.Validity.{Chain}
use Rattle.mp_rules.specs.Block.{apply_block}

-- the ledger state to which transactions lead from these outputs, at the tick
pub record IsAfter (accepts : Accepts) (u : Unspent) (tick block_bytes : ℕ) (ts : List Transaction) (m : LedgerState) : Type 0 where
  -- each transaction is valid after those before it
  pub chain : Chain accepts u tick ts
  pub at : m.tick ≡ tick
  pub bytes : m.block_bytes ≡ block_bytes
  -- its outputs are those that the transactions leave and make
  pub utxo : (r : OutRef) → get m.utxo r ≡ after u ts r

-- a block that isn't refused is a chain of valid transactions, and its ledger state is the one to which they lead
abbrev pub BlockIsAChain : Type 0
BlockIsAChain =
    (accepts : Accepts) (l : LedgerState) (tick block_bytes : ℕ) (ts : List Transaction) (m : LedgerState)
    → apply_block accepts l tick block_bytes ts ≡ Ok m → IsAfter accepts (get l.utxo) tick block_bytes ts m
