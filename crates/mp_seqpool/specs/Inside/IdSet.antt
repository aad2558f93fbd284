-- The table of the ids to take out.
use Rattle.std.specs.Prelude.{◌≡◌, ℕ, nat_eq, List, Some, is_some, if◌then◌else◌}
use Rattle.std.specs.List.{list_any}
use Rattle.std.specs.Cmp.Lexicographic.{pointwise}
use Rattle.std.specs.Map.{lookup}
use Rattle.mp_tx.specs.declared.reference.OutRef.{OutRef}
use Rattle.mp_tx.specs.Reference.{same_ref}
use Rattle.mp_utxo.specs.ById.{key_of}

abbrev pub Table : Type 0
Table = List (OutRef × Unit {0})

-- the table has an id exactly when it is one of these
abbrev pub AreNamed : List (List ℕ) → Table → Type 0
AreNamed ids named =
    (id : List ℕ) → is_some (lookup (same_ref (key_of id)) named) ≡ list_any (λ n. pointwise nat_eq id n) ids

-- the table has one more id
abbrev pub Notes : Table → List ℕ → Table → Type 0
Notes old id new =
    (r : OutRef) → lookup (same_ref r) new ≡ (if same_ref (key_of id) r then Some tt else lookup (same_ref r) old)
