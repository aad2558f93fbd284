-- How the names under which transactions are reported change.
use Rattle.std.specs.Prelude.{◌≡◌, ℕ, true, false, nat_eq, List, None, Some, find, if◌then◌else◌}
use Rattle.std.specs.Option.{option_map_or}
use Rattle.std.specs.Cmp.Lexicographic.{pointwise}
use Rattle.std.specs.Map.{lookup}
use Rattle.std.specs.FinMap.{get, remove}
use Rattle.mp_names.specs.declared.names.NamedBinding.{NamedBinding}
use Rattle.mp_names.specs.Reported.{Reported}
use Rattle.mp_names.specs.Inside.BindingTable.{has_name, has_tx_id}

-- the id has no entry, and each other id has what it had
abbrev pub Removes : {X : Type 0} → List (List ℕ × X) → List ℕ → List (List ℕ × X) → Type 0
Removes old id new =
    (q : List ℕ) → lookup (pointwise nat_eq q) new ≡ (if pointwise nat_eq id q then None else lookup (pointwise nat_eq q) old)

-- without the name for this id, if the name is the word
abbrev pub unreported : Reported → List ℕ → List ℕ → Reported
unreported reported id word =
    if option_map_or (pointwise nat_eq word) (get reported id) false then remove reported id else reported

-- each is reported under a name that it is declared with
abbrev pub AreDeclared : List NamedBinding → Reported → Type 0
AreDeclared bindings reported =
    (id word : List ℕ) → get reported id ≡ Some word → option_map_or (has_tx_id id) (find (has_name word) bindings) false ≡ true
