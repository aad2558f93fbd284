-- What becomes of an item.
use Rattle.std.specs.Prelude.{◌≡◌, ℕ, ◌<◌, Bool, true, false, [], ◌∷◌, ◌++◌, All}
use Rattle.mp_tx.specs.Transaction.{Transaction}
use Rattle.mp_utxo.specs.Overlay.{unspent}
use Rattle.mp_rules.specs.Verifier.{Accepts}
use Rattle.mp_seqpool.specs.declared.kept.Kept.{Kept}
use Rattle.mp_seqpool.specs.Keep.{is_valid}

-- all tickets are below this one
pub record AreBelow (ticket : ℕ) (k : Kept) : Type 0 where
  pub kept : All (λ t. t < ticket) k.kept
  pub named : All (λ t. t < ticket) k.named
  pub dropped : All (λ t. t < ticket) k.dropped

-- the item is applied, and its ticket is the last of the kept ones
pub record Keeps (old : Kept) (i : ℕ × Transaction) (new : Kept) : Type 0 where
  pub base : new.overlay.ledger ≡ old.overlay.ledger
  pub applied : new.overlay.applied ≡ old.overlay.applied ++ i.1 ∷ []
  pub items : new.overlay.items ≡ old.overlay.items ++ i ∷ []
  pub salt : new.overlay.salt ≡ old.overlay.salt
  pub kept : new.kept ≡ old.kept ++ i.0 ∷ []
  pub named : new.named ≡ old.named
  pub dropped : new.dropped ≡ old.dropped

-- its ticket is the last of the dropped ones
pub record Drops (old : Kept) (i : ℕ × Transaction) (new : Kept) : Type 0 where
  pub overlay : new.overlay ≡ old.overlay
  pub kept : new.kept ≡ old.kept
  pub named : new.named ≡ old.named
  pub dropped : new.dropped ≡ old.dropped ++ i.0 ∷ []

-- its ticket is the last of those that were taken out
pub record Passes (old : Kept) (i : ℕ × Transaction) (new : Kept) : Type 0 where
  pub overlay : new.overlay ≡ old.overlay
  pub kept : new.kept ≡ old.kept
  pub named : new.named ≡ old.named ++ i.0 ∷ []
  pub dropped : new.dropped ≡ old.dropped

-- it is kept if it is valid, and else dropped
abbrev pub KeepsOrDrops : Bool → Kept → ℕ × Transaction → Kept → Type 0
KeepsOrDrops true old i new = Keeps old i new
KeepsOrDrops false old i new = Drops old i new

-- it is valid after what was kept
abbrev pub is_valid_upon : Accepts → Kept → Transaction → Bool
is_valid_upon accepts k t = is_valid accepts (unspent k.overlay) k.overlay.ledger.tick t

abbrev pub Judges : Accepts → Kept → ℕ × Transaction → Kept → Type 0
Judges accepts old i new = KeepsOrDrops (is_valid_upon accepts old i.1) old i new

-- it is taken out if it is named, and else judged
abbrev pub Handles : Accepts → Bool → Kept → ℕ × Transaction → Kept → Type 0
Handles accepts true old i new = Passes old i new
Handles accepts false old i new = Judges accepts old i new
