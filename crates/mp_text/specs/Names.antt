-- Words that are names.
use Rattle.std.specs.Prelude.{ℕ, ◌≤◌, ◌&&◌, ◌||◌, ◌⊎◌, List, [], ◌∷◌, Bool, false, nat_le, length, All}
use Rattle.std.specs.List.{list_all}
use Rattle.std.specs.Char.{is_ascii_lowercase, is_ascii_digit, IsAsciiLowercase, IsAsciiDigit}

-- a lower-case letter, then up to 15 lower-case letters or digits
abbrev pub IsName : List ℕ → Type 0
IsName [] = ⊥
IsName (first ∷ others) =
    IsAsciiLowercase first × (length others ≤ 15)
    × All (λ b. IsAsciiLowercase b ⊎ IsAsciiDigit b) others

-- the tests
abbrev pub is_letter_or_digit : ℕ → Bool
is_letter_or_digit b = is_ascii_lowercase b || is_ascii_digit b

abbrev pub is_name : List ℕ → Bool
is_name [] = false
is_name (first ∷ others) =
    is_ascii_lowercase first && nat_le (length others) 15 && list_all is_letter_or_digit others
