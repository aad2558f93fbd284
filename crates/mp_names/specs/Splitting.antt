-- How words are split.
use Rattle.std.specs.Prelude.{ℕ, ◌+◌, ◌==◌, List, take, drop, position, Option, None, Some}

-- the bytes before the separator, and those after it if there is one
abbrev pub split_at_place : List ℕ → Option ℕ → List ℕ × Option (List ℕ)
split_at_place word None = (word, None)
split_at_place word (Some k) = (take k word, Some (drop (k + 1) word))

-- at the first separator
unfoldable pub split_once : ℕ → List ℕ → List ℕ × Option (List ℕ)
split_once separator word = split_at_place word (position (λ b. b == separator) word)
