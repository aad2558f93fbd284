-- How one more item is added to the right list.
use Rattle.std.specs.Prelude.{◌≡◌, ◌⊎◌, ℕ, ◌<◌, true, List, [], ◌∷◌, ◌++◌, All}
use Rattle.std.specs.FinMap.{get}
use Rattle.mp_tx.specs.Transaction.{Transaction}
use Rattle.mp_tx.specs.Ledger.{LedgerState}
use Rattle.mp_utxo.specs.Leaf.{IsLeaf}
use Rattle.mp_seqpool.specs.declared.parting.Parted.{Parted}
use Rattle.mp_seqpool.specs.Parted.{is_lost, IsUntouched}

-- all tickets are below this one
pub record AreBelow (ticket : ℕ) (p : Parted) : Type 0 where
  pub kept : All (λ t. t < ticket) p.kept
  pub dropped : All (λ t. t < ticket) p.dropped

-- its ticket is the last of those that stay
pub record Stays (old new : LedgerState) (was : Parted) (i : ℕ × Transaction) (now : Parted) : Type 0 where
  pub untouched : IsUntouched old new i.1
  pub kept : now.kept ≡ was.kept ++ i.0 ∷ []
  pub dropped : now.dropped ≡ was.dropped

-- its ticket is the last of the lost ones, and none of the transactions depends on it
pub record Goes (old : LedgerState) (ts : List Transaction) (new : LedgerState) (was : Parted) (i : ℕ × Transaction) (now : Parted)
    : Type 0 where
  pub lost : is_lost old new i.1 ≡ true
  pub leaf : IsLeaf (get old.utxo) ts i.1
  pub kept : now.kept ≡ was.kept
  pub dropped : now.dropped ≡ was.dropped ++ i.0 ∷ []

-- it stays or goes
abbrev pub Parts : LedgerState → List Transaction → LedgerState → Parted → ℕ × Transaction → Parted → Type 0
Parts old ts new was i now = Stays old new was i now ⊎ Goes old ts new was i now
