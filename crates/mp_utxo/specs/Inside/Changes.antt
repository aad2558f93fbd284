-- The last changes of references.
use Rattle.std.specs.Prelude.{◌≡◌, ℕ, Bool, true, false, ◌&&◌, nat_eq, nat_lt, List, length, Option, None, Some, if◌then◌else◌}
use Rattle.std.specs.Cmp.Lexicographic.{pointwise}
use Rattle.std.specs.Map.{lookup}
use Rattle.mp_tx.specs.declared.reference.OutRef.{OutRef}
use Rattle.mp_tx.specs.declared.input.Input.{Input}
use Rattle.mp_tx.specs.Reference.{same_ref}
use Rattle.mp_tx.specs.Transaction.{Transaction, spends}
use Rattle.mp_tx.specs.Spelling.{id_of}
use Rattle.mp_utxo.specs.declared.changes.Change.{Change}
use Rattle.mp_utxo.specs.declared.changes.Change.TheVariants.{Spent, Made, MadeThenSpent}

-- each reference that has changed, with its last change
abbrev pub Noted : Type 0
Noted = List (OutRef × Change)

abbrev pub last_change : Noted → OutRef → Option Change
last_change noted r = lookup (same_ref r) noted

-- the change of a reference once the transaction at the place spends it
abbrev pub spent : ℕ → Option Change → Change
spent spender None = Spent
spent spender (Some Spent) = Spent
spent spender (Some (Made place)) = MadeThenSpent place spender
spent spender (Some (MadeThenSpent place before)) = MadeThenSpent place spender

-- the change of a reference once it isn't spent
abbrev pub restored : Option Change → Option Change
restored None = None
restored (Some Spent) = None
restored (Some (Made place)) = Some (Made place)
restored (Some (MadeThenSpent place spender)) = Some (Made place)

-- whether one of the applied transactions made it
abbrev pub is_made : Option Change → Bool
is_made None = false
is_made (Some Spent) = false
is_made (Some (Made place)) = true
is_made (Some (MadeThenSpent place spender)) = true

-- the place of the transaction that made it, if it hasn't been spent since
abbrev pub unspent_of : Option Change → Option ℕ
unspent_of None = None
unspent_of (Some Spent) = None
unspent_of (Some (Made place)) = Some place
unspent_of (Some (MadeThenSpent place spender)) = None

-- the place of the transaction that made it
abbrev pub place_of : Option Change → Option ℕ
place_of None = None
place_of (Some Spent) = None
place_of (Some (Made place)) = Some place
place_of (Some (MadeThenSpent place spender)) = Some place

-- the references that pass the test change by the function; the others stay the same
abbrev pub Becomes : Noted → (OutRef → Bool) → (Option Change → Option Change) → Noted → Type 0
Becomes old test next new =
    (r : OutRef) → last_change new r ≡ (if test r then next (last_change old r) else last_change old r)

-- this is the last change of the reference; the others stay the same
abbrev pub Notes : Noted → OutRef → Change → Noted → Type 0
Notes old reference change new = Becomes old (same_ref reference) (λ o. Some change) new

abbrev pub SpendsOne : Noted → ℕ → OutRef → Noted → Type 0
SpendsOne old spender reference new = Becomes old (same_ref reference) (λ o. Some (spent spender o)) new

-- the last change of what the inputs spend is that the transaction at the place spends it
abbrev pub Spends : Noted → ℕ → List Input → Noted → Type 0
Spends old spender inputs new = Becomes old (spends inputs) (λ o. Some (spent spender o)) new

abbrev pub RestoresOne : Noted → OutRef → Noted → Type 0
RestoresOne old reference new = Becomes old (same_ref reference) restored new

-- what the inputs spend is recorded as not spent
abbrev pub Restores : Noted → List Input → Noted → Type 0
Restores old inputs new = Becomes old (spends inputs) restored new

abbrev pub ForgetsOne : Noted → OutRef → Noted → Type 0
ForgetsOne old reference new = Becomes old (same_ref reference) (λ o. None) new

-- the reference is among the first n outputs of the transaction with this id
abbrev pub is_own : List ℕ → ℕ → OutRef → Bool
is_own id count r = pointwise nat_eq r.id id && nat_lt r.index count

-- the last change of the first n outputs of the transaction with this id is that the one at the place made them
abbrev pub MakesUpTo : Noted → List ℕ → ℕ → ℕ → Noted → Type 0
MakesUpTo old id count place new = Becomes old (is_own id count) (λ o. Some (Made place)) new

-- the last change of the transaction's outputs is that the one at the place made them
abbrev pub Makes : Noted → Transaction → ℕ → Noted → Type 0
Makes old t place new = MakesUpTo old (id_of t) (length t.outputs) place new

-- the first n outputs of the transaction with this id have no change
abbrev pub ForgetsUpTo : Noted → List ℕ → ℕ → Noted → Type 0
ForgetsUpTo old id count new = Becomes old (is_own id count) (λ o. None) new

-- the transaction's outputs have no change
abbrev pub Forgets : Noted → Transaction → Noted → Type 0
Forgets old t new = ForgetsUpTo old (id_of t) (length t.outputs) new
