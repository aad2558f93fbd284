-- Trying a pool's items on another ledger state, one after the other.
use Rattle.std.specs.Prelude.{◌≡◌, ℕ, ◌+◌, Bool, true, false, List, [], ◌∷◌, ◌++◌}
use Rattle.mp_tx.specs.Transaction.{Transaction}
use Rattle.mp_tx.specs.Spelling.{size_of}
use Rattle.mp_tx.specs.Ledger.{LedgerState}
use Rattle.mp_utxo.specs.Overlay.{unspent}
use Rattle.mp_rules.specs.Verifier.{Accepts}
use Rattle.mp_seqpool.specs.Keep.{transactions, is_valid, keep, bytes_of}
use Rattle.mp_seqpool.specs.Item.{items_of}
use Rattle.mp_versions.specs.declared.kept_items.Keeping.{Keeping}

-- nothing has been kept on the ledger state
pub record IsBegun (ledger : LedgerState) (t : Keeping) : Type 0 where
  pub base : t.overlay.ledger ≡ ledger
  pub applied : t.overlay.applied ≡ []
  pub kept : items_of t.items.items ≡ []
  pub size : t.bytes ≡ 0

-- the item is applied, and is the last of the kept ones
pub record Keeps (old : Keeping) (i : ℕ × Transaction) (new : Keeping) : Type 0 where
  pub base : new.overlay.ledger ≡ old.overlay.ledger
  pub applied : new.overlay.applied ≡ old.overlay.applied ++ i.1 ∷ []
  pub kept : items_of new.items.items ≡ items_of old.items.items ++ i ∷ []
  pub size : new.bytes ≡ old.bytes + size_of i.1

-- it is kept if it is valid, and else nothing changes
abbrev pub KeepsOrStays : Bool → Keeping → ℕ × Transaction → Keeping → Type 0
KeepsOrStays true old i new = Keeps old i new
KeepsOrStays false old i new = new ≡ old

-- it is kept if it is valid after what was kept
abbrev pub Tries : Accepts → Keeping → ℕ × Transaction → Keeping → Type 0
Tries accepts old i new =
    KeepsOrStays (is_valid accepts (unspent old.overlay) old.overlay.ledger.tick i.1) old i new

-- it kept those of these items that stay valid on the ledger state
pub record HasTried (accepts : Accepts) (ledger : LedgerState) (items : List (ℕ × Transaction)) (t : Keeping)
    : Type 0 where
  pub base : t.overlay.ledger ≡ ledger
  pub applied : t.overlay.applied ≡ transactions (keep accepts ledger items)
  pub kept : items_of t.items.items ≡ keep accepts ledger items
  pub size : t.bytes ≡ bytes_of (keep accepts ledger items)
