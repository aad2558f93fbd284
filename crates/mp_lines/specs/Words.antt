-- The number of words after the first one of a line.
use Rattle.std.specs.Prelude.{ℕ, List, [], ◌∷◌, Option, None, Some}

-- that there is none
abbrev pub no_word : List (List ℕ) → Option (Unit {0})
no_word [] = Some tt
no_word (word ∷ more) = None

-- the word, if it is the only one
abbrev pub one_word : List (List ℕ) → Option (List ℕ)
one_word [] = None
one_word (word ∷ []) = Some word
one_word (word ∷ other ∷ more) = None

-- the words, if there are two
abbrev pub two_words : List (List ℕ) → Option (List ℕ × List ℕ)
two_words [] = None
two_words (word ∷ []) = None
two_words (word ∷ other ∷ []) = Some (word, other)
two_words (word ∷ other ∷ another ∷ more) = None
