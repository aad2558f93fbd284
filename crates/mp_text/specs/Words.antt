-- The words of a line.
use Rattle.std.specs.Prelude.{ℕ, ◌<◌, ◌≢◌, ◌==◌, List, [], ◌∷◌, Bool, true, false, nat_lt, length, filter, All}
use Rattle.std.specs.List.{slice_split}

-- the parts between spaces (32), without the empty ones
abbrev pub words_of : List ℕ → List (List ℕ)
words_of line = filter (λ part. nat_lt 0 (length part)) (slice_split (λ b. b == 32) line)

-- at least one byte, and no space
pub record IsWord (word : List ℕ) : Type 0 where
  pub some : 0 < length word
  pub unbroken : All (λ b. b ≢ 32) word

-- the first byte is `#`, 35
abbrev pub begins_comment : List ℕ → Bool
begins_comment [] = false
begins_comment (b ∷ bytes) = b == 35

-- there is no word, or the first begins a comment
abbrev pub are_none_or_comment : List (List ℕ) → Bool
are_none_or_comment [] = true
are_none_or_comment (word ∷ words) = begins_comment word

abbrev pub is_comment_or_blank : List ℕ → Bool
is_comment_or_blank line = are_none_or_comment (words_of line)
