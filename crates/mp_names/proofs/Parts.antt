-- The parts of a word between separators, one by one.
use Rattle.std.proofs.Common.{◌≡◌, ℕ, ◌+◌, ◌==◌, Bool, true, false, List, [], ◌∷◌, length, cond, Option, Some, None, arith, nat_lt, refl}
use Rattle.std.specs.List.{position_or_len, slice_split}
use Rattle.std.proofs.lemmas.Bool.Decides.{nat_tests}
use Rattle.std.proofs.lemmas.List.Sums.{fails_before_first}
use Rattle.std.proofs.lemmas.List.Splits.{slice_split_first, slice_split_none}
use Rattle.mp_names.specs.Splitting.{split_at_place, split_once}

-- the parts of what is left, if anything is
abbrev pub parts_left : ℕ → Option (List ℕ) → List (List ℕ)
parts_left separator None = []
parts_left separator (Some word) = slice_split (λ b. b == separator) word

-- how much is left: an empty word counts more than none
abbrev pub length_left : Option (List ℕ) → ℕ
length_left None = 0
length_left (Some word) = 1 + length word

first_part : (c : ℕ) (word : List ℕ) (t : Bool) → nat_lt (position_or_len (λ b. b == c) word) (length word) ≡ t
    → let parts = split_at_place word (cond t (Some (position_or_len (λ b. b == c) word)) None) in slice_split (λ b. b == c) word ≡ parts.0 ∷ parts_left c parts.1
first_part c word true is = slice_split_first (λ b. b == c) word 0 (grind (arith, nat_tests))
first_part c word false is =
    slice_split_none (λ b. b == c) word (λ k d lt. fails_before_first (λ b. b == c) word k d (let s = is in grind (arith, nat_tests)))

pub parts-first : (c : ℕ) (word : List ℕ) → slice_split (λ b. b == c) word ≡ (split_once c word).0 ∷ parts_left c (split_once c word).1
unfolding split_once
parts-first c word = first_part c word _ refl
