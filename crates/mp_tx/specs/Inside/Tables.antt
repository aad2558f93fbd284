-- Tables of outputs and of changes of references, each with the salt of its hash table.
use Rattle.std.specs.Prelude.{◌≡◌, ℕ, List, [], ◌∷◌, ◌++◌, All}
use Rattle.indexmap.specs.IndexMap.{IndexMap, hasher_of}
use Rattle.mp_tx.specs.declared.reference.OutRef.{OutRef}
use Rattle.mp_tx.specs.declared.ledger.change.Change.{Change}
use Rattle.mp_tx.specs.Ledger.{Utxo}
use Rattle.mp_tx.specs.Inside.Changes.{Noted}

pub record Layer : Type 0 where
  pub salt : ℕ
  -- references with their changes
  pub noted : Noted

pub record Outputs : Type 0 where
  pub salt : ℕ
  pub utxo : Utxo

-- a table of changes
abbrev pub layer_of : IndexMap OutRef Change ℕ → Layer
layer_of changes = record { salt = hasher_of changes; noted = changes.entries }

-- the changes of all layers, the newest first
abbrev pub all_of : List Layer → Noted
all_of [] = []
all_of (l ∷ ls) = l.noted ++ all_of ls

-- the tables of all layers have this salt
abbrev pub HaveSalt : ℕ → List Layer → Type 0
HaveSalt salt layers = All (λ l. l.salt ≡ salt) layers
