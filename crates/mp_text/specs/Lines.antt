-- The lines of a text.
use Rattle.std.specs.Prelude.{ℕ, ◌≤◌, ◌==◌, ◌&&◌, List, [], ◌∷◌, Bool, if◌then◌else◌, nat_le, length, All}
use Rattle.std.specs.List.{onto_first, list_all}
use Rattle.std.specs.Int.{IsInRange, is_in_range}

-- Each line feed, 10, ends a line. What follows the last one is a line too, unless it is empty.
abbrev pub lines_of : List ℕ → List (List ℕ)
lines_of [] = []
lines_of (b ∷ text) = if b == 10 then [] ∷ lines_of text else onto_first b (lines_of text)

-- at most 4,096 bytes, each from 0x20 to 0x7E
pub record IsClean (line : List ℕ) : Type 0 where
  pub short : length line ≤ 4096
  pub printable : All (IsInRange 0x20 0x7E) line

-- the tests
abbrev pub is_printable : ℕ → Bool
is_printable b = is_in_range 0x20 0x7E b

abbrev pub is_clean : List ℕ → Bool
is_clean line = nat_le (length line) 4096 && list_all is_printable line
