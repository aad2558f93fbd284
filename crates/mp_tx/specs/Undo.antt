-- Going back from the ledger state after a block to the one before it.
use Rattle.std.specs.Prelude.{◌≡◌, ◌≤◌, ℕ, false, List, length}
use Rattle.std.specs.List.{list_any}
use Rattle.std.specs.FinMap.{get}
use Rattle.mp_tx.specs.declared.reference.OutRef.{OutRef}
use Rattle.mp_tx.specs.declared.output.Output.{Output}
use Rattle.mp_tx.specs.Reference.{same_ref}
use Rattle.mp_tx.specs.Ledger.{LedgerState, HasBlockBytes, ledger_after, without, AreThere, AreFree}

-- what a block changed
pub record Undo : Type 0 where
  -- the tick and the block bytes of the ledger state before it
  pub tick : ℕ
  pub block_bytes : ℕ
  -- the outputs of the ledger state before it that the block touched
  pub spent : List (OutRef × Output)
  -- the references that it touched and that lead to outputs after it
  pub made : List OutRef

-- without what was made, and with what was spent
abbrev pub undone : LedgerState → Undo → LedgerState
undone l u = ledger_after l u.tick u.block_bytes u.made u.spent

-- what was made is there, and what was spent isn't there once that is removed
pub record CanUndo (l : LedgerState) (u : Undo) : Type 0 where
  pub block_bytes : HasBlockBytes u.block_bytes
  pub there : AreThere l.utxo u.made
  pub free : AreFree (without l.utxo u.made) u.spent

-- it leads from the ledger state after a block to the one before it
pub record GoesBack (after : LedgerState) (u : Undo) (before : LedgerState) : Type 0 where
  pub can : CanUndo after u
  pub back : undone after u ≡ before

-- it has at most this many outputs, and at most this many references
pub record IsWithin (count : ℕ) (u : Undo) : Type 0 where
  pub spent : length u.spent ≤ count
  pub made : length u.made ≤ count

-- except for their ticks and block bytes, the ledger states differ at most at these references
pub record DifferAt (touched : List OutRef) (before after : LedgerState) : Type 0 where
  pub salt : after.salt ≡ before.salt
  pub others : (r : OutRef) → list_any (same_ref r) touched ≡ false → get after.utxo r ≡ get before.utxo r
