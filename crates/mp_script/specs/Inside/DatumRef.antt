-- What is read again from the bytes of a datum, without its tree.
use Rattle.std.specs.Prelude.{◌≡◌, ◌<◌, ℕ, ℤ, List, [], ◌∷◌, ◌++◌, Option, Some, None, if◌then◌else◌, nat_eq}
use Rattle.std.specs.Option.{option_map, option_and_then}
use Rattle.mp_bytes.specs.Fields.{number_at, count_at, sized_at}
use Rattle.mp_script.specs.Datum.{Datum, Items, count, AllFit, spelling, spellings, item_at}

-- the bytes after a tag
abbrev pub behind : List ℕ → ℕ → Option (List ℕ)
behind [] tag = None
behind (b ∷ bytes) tag = if nat_eq b tag then Some bytes else None

unfoldable pub number_seen : List ℕ → Option ℤ
number_seen bytes = option_map (λ n. n.0) (option_and_then number_at (behind bytes 1))

unfoldable pub octets_seen : List ℕ → Option (List ℕ)
octets_seen bytes = option_map (λ run. run.0) (option_and_then sized_at (behind bytes 2))

-- the number of items, and their bytes
unfoldable pub items_seen : List ℕ → Option (ℕ × List ℕ)
items_seen bytes = option_and_then count_at (behind bytes 3)

-- no data, and the bytes after a field
abbrev pub bare : {A : Type 0} → Option (A × List ℕ) → Option (ℕ × List ℕ)
bare None = None
bare (Some field) = Some (0, field.1)

-- the number of data in the datum at the front, and the bytes after its head
unfoldable pub head_at : List ℕ → Option (ℕ × List ℕ)
head_at [] = None
head_at (tag ∷ bytes) =
    if nat_eq tag 1 then bare (number_at bytes)
    else if nat_eq tag 2 then bare (sized_at bytes)
    else if nat_eq tag 3 then count_at bytes
    else None

-- the bytes are data, one of which is at the index
abbrev pub AreItems : List ℕ → Items → ℕ → Type 0
AreItems bytes items place = AllFit items × (place < count items) × (bytes ≡ spellings items)

-- the bytes are the item at the index
abbrev pub IsItem : Items → ℕ → List ℕ → Type 0
IsItem items place bytes = (d : Datum) × (item_at items place ≡ Some d) × (bytes ≡ spelling d)

-- the bytes are n data, and then a rest
pub record IsRun (bytes : List ℕ) (n : ℕ) (rest : List ℕ) : Type 0 where
  pub items : Items
  pub number : count items ≡ n
  pub fit : AllFit items
  pub split : bytes ≡ spellings items ++ rest
