-- Laws of transactions and their bytes, and of blocks.
use Rattle.std.specs.Prelude.{◌≡◌, ◌↔◌, ℕ, List, ◌++◌, None, Ok}
use Rattle.mp_tx.specs.declared.reference.OutRef.{OutRef}
use Rattle.mp_tx.specs.declared.output.Output.{Output}
use Rattle.mp_tx.specs.Transaction.{Transaction}
use Rattle.mp_tx.specs.Spelling.{spelling}
use Rattle.mp_tx.specs.Parts.{AreParts, IsTransaction, Spells}
use Rattle.mp_tx.specs.Reading.{transaction_of}
use Rattle.mp_tx.specs.TxFault.{parts_fault}
use Rattle.mp_tx.specs.Ledger.{LedgerState, refs, ledger_after}
use Rattle.mp_tx.specs.Undo.{DifferAt}

-- bytes spell at most one transaction, which is the one that decoding returns; a transaction has one spelling
pub record TransactionIsOne : Type 0 where
  pub spelled_once : (bytes : List ℕ) (t u : Transaction) → Spells bytes t → Spells bytes u → t ≡ u
  pub read : (bytes : List ℕ) (t : Transaction) → Spells bytes t → transaction_of bytes ≡ Ok t
  pub one_spelling : (a b : List ℕ) (t : Transaction) → Spells a t → Spells b t → a ≡ b
  pub is_spelled : (t : Transaction) → AreParts t → IsTransaction t → Spells (spelling t) t

-- parts have no fault exactly when a transaction may have them
abbrev pub FaultlessIsTransaction : Type 0
FaultlessIsTransaction = (t : Transaction) → (parts_fault t ≡ None) ↔ IsTransaction t

-- the ledger states before and after a block differ at most where the block spends and makes
abbrev pub BlockChangesItsOwn : Type 0
BlockChangesItsOwn =
    (l : LedgerState) (tick block_bytes : ℕ) (spent : List OutRef) (made : List (OutRef × Output))
    → DifferAt (spent ++ refs made) l (ledger_after l tick block_bytes spent made)
