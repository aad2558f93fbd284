-- The numbers that words denote.
use Rattle.std.specs.Prelude.{ℕ, ◌+◌, ◌-◌, ◌*◌, ◌^◌, ◌&&◌, List, [], ◌∷◌, Bool, Option, Some, None, if◌then◌else◌, nat_lt, nat_le, length}
use Rattle.std.specs.List.{list_all}
use Rattle.std.specs.Char.{is_ascii_digit}

-- 1 to this many decimal digits
abbrev pub are_digits : ℕ → List ℕ → Bool
are_digits most word =
    nat_lt 0 (length word) && nat_le (length word) most && list_all is_ascii_digit word

-- what digits denote: each, less the 48 of `0`, counts ten times as much as the next
abbrev pub value_of_digits : List ℕ → ℕ
value_of_digits [] = 0
value_of_digits (digit ∷ digits) = (digit - 48) * 10 ^ length digits + value_of_digits digits

-- a value below a bound
abbrev pub if_below : ℕ → ℕ → Option ℕ
if_below bound value = if nat_lt value bound then Some value else None

-- 1 to 20 digits, and at most 2^64 - 1
abbrev pub number_of : List ℕ → Option ℕ
number_of word = if are_digits 20 word then if_below (2 ^ 64) (value_of_digits word) else None

-- 1 to 19 digits, and from 1 to 2^63 - 1
abbrev pub quantity_of : List ℕ → Option ℕ
quantity_of word =
    if are_digits 19 word && nat_lt 0 (value_of_digits word)
    then if_below (2 ^ 63) (value_of_digits word) else None
