-- The result of applying a block.
use Rattle.std.specs.Prelude.{◌≡◌, ℕ, List, Result, Ok, Err}
use Rattle.mp_tx.specs.Transaction.{Transaction}
use Rattle.mp_tx.specs.Ledger.{LedgerState}
use Rattle.mp_tx.specs.Undo.{GoesBack}
use Rattle.mp_rules.specs.declared.invalid.Invalid.{Invalid}
use Rattle.mp_names.specs.Names.{Names}
use Rattle.mp_serve.specs.declared.extending.Extended.{Extended}
use Rattle.mp_serve.specs.declared.extending.Extended.TheVariants.{To, Refused}
use Rattle.mp_serve.specs.Texts.{block_refused_text}

-- the ledger state and how to go back, or the text of the refusal
abbrev pub IsExtended : Names → LedgerState → List Transaction → Result LedgerState (ℕ × Invalid) → Extended → Type 0
IsExtended names before txs wanted (To b) = (wanted ≡ Ok b.ledger) × GoesBack b.ledger b.undo before
IsExtended names before txs wanted (Refused text) =
    (place : ℕ) × (fault : Invalid) × (wanted ≡ Err (place, fault)) × (text.items ≡ block_refused_text names txs place fault)
