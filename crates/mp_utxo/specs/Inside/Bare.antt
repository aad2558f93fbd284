-- The tickets of transactions without outputs, by their ids.
use Rattle.std.specs.Prelude.{◌≡◌, ℕ, ◌<◌, ◌==◌, ◌&&◌, List, length, All, Contains, Option, None, Some, if◌then◌else◌}
use Rattle.std.specs.Map.{lookup}
use Rattle.mp_tx.specs.declared.reference.OutRef.{OutRef}
use Rattle.mp_tx.specs.Reference.{same_ref}
use Rattle.mp_tx.specs.Transaction.{Transaction}
use Rattle.mp_tx.specs.Spelling.{id_of}
use Rattle.mp_utxo.specs.ById.{key_of}

abbrev pub Noted : Type 0
Noted = List (OutRef × ℕ)

abbrev pub noted_at : Noted → OutRef → Option ℕ
noted_at noted r = lookup (same_ref r) noted

-- this ticket is recorded for the transaction if it has no outputs, and the other references don't change
abbrev pub NotesBare : Noted → ℕ → Transaction → Noted → Type 0
NotesBare old ticket t new = (r : OutRef) → noted_at new r
    ≡ (if (length t.outputs == 0) && same_ref (key_of (id_of t)) r then Some ticket else noted_at old r)

-- a transaction without outputs has the id and the ticket
pub record IsBareUnder (items : List (ℕ × Transaction)) (id : List ℕ) (ticket : ℕ) : Type 0 where
  pub tx : Transaction
  pub there : Contains items (ticket, tx)
  pub has : id_of tx ≡ id
  pub bare : length tx.outputs ≡ 0

-- all transactions with the id have outputs
abbrev pub HaveOutputs : List (ℕ × Transaction) → List ℕ → Type 0
HaveOutputs items id = All (λ e. id_of e.1 ≡ id → 0 < length e.1.outputs) items

abbrev pub IsNotedSo : List (ℕ × Transaction) → List ℕ → Option ℕ → Type 0
IsNotedSo items id None = HaveOutputs items id
IsNotedSo items id (Some ticket) = IsBareUnder items id ticket

-- a ticket is recorded for each id of a transaction without outputs
abbrev pub AreNoted : List (ℕ × Transaction) → Noted → Type 0
AreNoted items noted = (id : List ℕ) → IsNotedSo items id (noted_at noted (key_of id))
