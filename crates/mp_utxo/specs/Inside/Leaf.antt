-- Conditions on the references of a transaction without dependents.
use Rattle.std.specs.Prelude.{◌≡◌, ℕ, ◌<◌, List, length, EachIndex, Contains, Bool, true, false, ◌&&◌, Option, None, Some, is_some, is_none, option_map, slice_get}
use Rattle.mp_tx.specs.declared.reference.OutRef.{OutRef}
use Rattle.mp_tx.specs.declared.output.Output.{Output}
use Rattle.mp_tx.specs.Transaction.{Transaction}
use Rattle.mp_utxo.specs.declared.applied.Applied.{Applied}
use Rattle.mp_utxo.specs.declared.changes.Change.{Change}
use Rattle.mp_utxo.specs.declared.changes.Change.TheVariants.{Spent, Made, MadeThenSpent}
use Rattle.mp_utxo.specs.Apply.{Unspent, own_ref}
use Rattle.mp_utxo.specs.Inside.Changes.{Noted, last_change, unspent_of}

-- it was made and not spent since, and the ledger has nothing there
abbrev pub is_new_unspent : Noted → Unspent → OutRef → Bool
is_new_unspent noted u r = is_some (unspent_of (last_change noted r)) && is_none (u r)

-- the transaction has outputs, and this holds of all of them
pub record HasNewUnspent (noted : Noted) (u : Unspent) (t : Transaction) : Type 0 where
  pub some : 0 < length t.outputs
  pub each : EachIndex t.outputs (λ k. is_new_unspent noted u (own_ref t k) ≡ true)

-- the output of a spent reference comes from the ledger alone, or from the transactions alone
abbrev pub is_told_by_one : Option Change → Option Output → Bool
is_told_by_one None below = false
is_told_by_one (Some Spent) below = true
is_told_by_one (Some (Made place)) below = false
is_told_by_one (Some (MadeThenSpent place spender)) below = is_none below

abbrev pub is_of_one : Noted → Unspent → OutRef → Bool
is_of_one noted u r = is_told_by_one (last_change noted r) (u r)

-- the ticket at the place of the transaction that spends it
abbrev pub spender_of : List Applied → Option Change → Option ℕ
spender_of applied None = None
spender_of applied (Some Spent) = None
spender_of applied (Some (Made place)) = None
spender_of applied (Some (MadeThenSpent place spender)) = option_map (λ a. a.ticket) (slice_get applied spender)

abbrev pub IsAmong : List ℕ → Option ℕ → Type 0
IsAmong gone None = ⊥
IsAmong gone (Some ticket) = Contains gone ticket

-- it was made, and not spent since, or by a transaction with one of these tickets
abbrev pub EndsAmong : List Applied → List ℕ → Option Change → Type 0
EndsAmong applied gone None = ⊥
EndsAmong applied gone (Some Spent) = ⊥
EndsAmong applied gone (Some (Made place)) = Unit {0}
EndsAmong applied gone (Some (MadeThenSpent place spender)) = IsAmong gone (option_map (λ a. a.ticket) (slice_get applied spender))

-- and the ledger has nothing there
pub record IsNewEnd (noted : Noted) (u : Unspent) (applied : List Applied) (gone : List ℕ) (r : OutRef) : Type 0 where
  pub ends : EndsAmong applied gone (last_change noted r)
  pub new : u r ≡ None

-- the transaction has outputs, and this holds of all of them
pub record HasNewEnds (noted : Noted) (u : Unspent) (applied : List Applied) (gone : List ℕ) (t : Transaction) : Type 0 where
  pub some : 0 < length t.outputs
  pub each : EachIndex t.outputs (λ k. IsNewEnd noted u applied gone (own_ref t k))
