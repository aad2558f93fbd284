-- Numbers in their ranges.
use Rattle.std.specs.Prelude.{ℕ, ◌&&◌, nat_le, List, Option, None, Some, option_and_then, if◌then◌else◌}
use Rattle.mp_text.specs.Numbers.{number_of}

-- the number that a word denotes, from `least` to `most`
abbrev pub number_in : ℕ → ℕ → List ℕ → Option ℕ
number_in least most word = option_and_then (λ n. if nat_le least n && nat_le n most then Some n else None) (number_of word)
