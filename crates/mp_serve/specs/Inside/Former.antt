-- The ledger states that a pool had, given what leads back to them, oldest first.
use Rattle.std.specs.Prelude.{◌≡◌, List, [], ◌∷◌}
use Rattle.mp_tx.specs.Ledger.{LedgerState}
use Rattle.mp_tx.specs.Undo.{undone, CanUndo, GoesBack}
use Rattle.mp_serve.specs.declared.former.Former.{Former}
use Rattle.mp_serve.specs.declared.former.Former.TheVariants.{Block, Whole}

-- the ledger state before this one
abbrev pub state_before : LedgerState → Former → LedgerState
state_before now (Block undo) = undone now undo
state_before now (Whole ledger) = ledger

-- what a block changed can be undone
abbrev pub CanGoBack : LedgerState → Former → Type 0
CanGoBack now (Block undo) = CanUndo now undo
CanGoBack now (Whole ledger) = Unit {0}

-- it leads back from the first to the second
abbrev pub LeadsBack : LedgerState → Former → LedgerState → Type 0
LeadsBack now (Block undo) before = GoesBack now undo before
LeadsBack now (Whole ledger) before = ledger ≡ before

-- the first of the ledger states that lead to this one
abbrev pub earliest : List Former → LedgerState → LedgerState
earliest [] now = now
earliest (f ∷ fs) now = state_before (earliest fs now) f

-- all ledger states that lead to this one
abbrev pub states_of : List Former → LedgerState → List LedgerState
states_of [] now = []
states_of (f ∷ fs) now = earliest (f ∷ fs) now ∷ states_of fs now

-- each of them can be restored
abbrev pub CanAllGoBack : List Former → LedgerState → Type 0
CanAllGoBack [] now = Unit {0}
CanAllGoBack (f ∷ fs) now = CanGoBack (earliest fs now) f × CanAllGoBack fs now
