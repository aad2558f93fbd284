-- Ids of transactions, as words write them.
use Rattle.std.specs.Prelude.{ℕ, ◌==◌, ◌&&◌, ◌||◌, Bool, nat_le, List, [], ◌∷◌, Option, None, option_map, if◌then◌else◌}
use Rattle.std.specs.Option.{option_or}
use Rattle.std.specs.Result.{result_ok}
use Rattle.std.specs.List.{list_all}
use Rattle.hex.specs.Hex.{decode_sized}
use Rattle.mp_tx.specs.Spelling.{id_of}
use Rattle.mp_names.specs.Names.{Names, tx_named}

-- `0` to `9` are 48 to 57, `a` to `f` are 97 to 102
abbrev pub is_lower_digit : ℕ → Bool
is_lower_digit b = (nat_le 48 b && nat_le b 57) || (nat_le 97 b && nat_le b 102)

-- the id of 64 lower-case digits
abbrev pub id_by : List ℕ → Option (List ℕ)
id_by digits = if list_all is_lower_digit digits then result_ok (decode_sized digits 32) else None

-- the id in a word `#ID`; the number sign is 35
abbrev pub id_in : List ℕ → Option (List ℕ)
id_in [] = None
id_in (b ∷ digits) = if b == 35 then id_by digits else None

-- the id that a word means: that in the word, or that of the transaction that it denotes
abbrev pub id_meant : Names → List ℕ → Option (List ℕ)
id_meant names word = option_or (id_in word) (option_map (λ t. id_of t.tx) (tx_named word names))
