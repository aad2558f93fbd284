-- Ledger states.
use Rattle.std.specs.Prelude.{ℕ, ◌<◌, ◌≤◌, ◌^◌, List, [], ◌∷◌, map, fold, length, take, Contains, HoldsAt, AllPairs, IsSome, IsNone, ◌≢◌}
use Rattle.std.specs.FinMap.{FinMap, get, insert, remove}
use Rattle.std.specs.FinMap as finite
use Rattle.mp_tx.specs.declared.reference.OutRef.{OutRef}
use Rattle.mp_tx.specs.Reference.{ref_cmp}
use Rattle.mp_tx.specs.declared.output.Output.{Output}

-- a finite map from references to outputs
abbrev pub Utxo : Type 0
Utxo = FinMap ref_cmp Output

pub record LedgerState : Type 0 where
  -- the time, in ticks
  pub tick : ℕ
  -- the greatest size of a block, in bytes
  pub block_bytes : ℕ
  -- the outputs that can be spent (the UTxO map of the EUTXO model of Chakravarty et al.)
  pub utxo : Utxo
  -- the secret number that the hash tables depend on
  pub salt : ℕ

-- from 1 to 2^39
abbrev pub HasBlockBytes : ℕ → Type 0
HasBlockBytes n = (1 ≤ n) × (n ≤ 2 ^ 39)

-- the references of outputs
abbrev pub refs : List (OutRef × Output) → List OutRef
refs outputs = map (λ e. e.0) outputs

-- no reference occurs twice
abbrev pub AreDistinct : List OutRef → Type 0
AreDistinct rs = AllPairs (λ a b. a ≢ b) rs

-- the first index whose reference occurs before
pub record IsFirstRepeat (rs : List OutRef) (place : ℕ) : Type 0 where
  -- the index is in range
  pub within : place < length rs
  -- its reference occurs before it
  pub again : HoldsAt (Contains (take place rs)) rs place
  -- this holds of no earlier index
  pub before : AreDistinct (take place rs)

abbrev pub ledger_of : ℕ → ℕ → ℕ → List (OutRef × Output) → LedgerState
ledger_of salt tick block_bytes outputs = record {
  tick = tick;
  block_bytes = block_bytes;
  utxo = finite.from_entries outputs;
  salt = salt;
}

-- without the outputs of these references
abbrev pub without : Utxo → List OutRef → Utxo
without utxo spent = fold remove utxo spent

-- with these outputs
abbrev pub with_outputs : Utxo → List (OutRef × Output) → Utxo
with_outputs utxo made = fold (λ u e. insert u e.0 e.1) utxo made

-- after a block: without what was spent, and with what was made; the salt stays
abbrev pub ledger_after : LedgerState → ℕ → ℕ → List OutRef → List (OutRef × Output) → LedgerState
ledger_after l tick block_bytes spent made = record {
  tick = tick;
  block_bytes = block_bytes;
  utxo = with_outputs (without l.utxo spent) made;
  salt = l.salt;
}

-- each reference leads to an output, after those before it are spent
abbrev pub AreThere : Utxo → List OutRef → Type 0
AreThere utxo [] = Unit {0}
AreThere utxo (r ∷ rs) = IsSome (get utxo r) × AreThere (remove utxo r) rs

-- each reference leads to no output, after those before it are made
abbrev pub AreFree : Utxo → List (OutRef × Output) → Type 0
AreFree utxo [] = Unit {0}
AreFree utxo (e ∷ es) = IsNone (get utxo e.0) × AreFree (insert utxo e.0 e.1) es

-- the first index whose reference leads to no output, or occurs before
pub record IsFirstMissing (utxo : Utxo) (spent : List OutRef) (place : ℕ) : Type 0 where
  -- the index is in range
  pub within : place < length spent
  -- its reference leads to nothing once those before it are spent
  pub missing : HoldsAt (λ r. IsNone (get (without utxo (take place spent)) r)) spent place
  -- this holds of no earlier index
  pub before : AreThere utxo (take place spent)

-- the first index whose reference leads to an output, or occurs before
pub record IsFirstTaken (utxo : Utxo) (made : List (OutRef × Output)) (place : ℕ) : Type 0 where
  -- the index is in range
  pub within : place < length made
  -- its reference leads to an output once those before it are made
  pub taken : HoldsAt (λ e. IsSome (get (with_outputs utxo (take place made)) e.0)) made place
  -- this holds of no earlier index
  pub before : AreFree utxo (take place made)
