-- The first word of a line.
use Rattle.std.proofs.Common.{◌≡◌, ◌≢◌, ℕ, suc, ◌+◌, ◌==◌, ◌<◌, cond, not, Bool, true, false, List, [], ◌∷◌, length, take, drop, get_or, refl, sym, ap, subst, ◌∙◌, arith, filter, nat_lt, slice_get, Some, eqb-true}
use Rattle.std.proofs.lemmas.Bool.{false≢true}
use Rattle.std.proofs.lemmas.Bool.Decides.{nat_tests}
use Rattle.std.proofs.lemmas.List.{get_or-take}
use Rattle.std.proofs.lemmas.List.Folds.{length-prefix_len}
use Rattle.std.proofs.lemmas.List.Sums.{fails_before_first}
use Rattle.std.specs.List.{position_or_len, onto_first, slice_split}
use Rattle.mp_text.specs.Words.{words_of, IsWord}

abbrev is_space : ℕ → Bool
is_space b = b == 32

abbrev has_some : List ℕ → Bool
has_some part = nat_lt 0 (length part)

-- how many bytes precede the first space
abbrev pub end_of : List ℕ → ℕ
end_of line = position_or_len (λ b. b == 32) line

-- how many spaces the line begins with
abbrev pub start_of : List ℕ → ℕ
start_of line = position_or_len (λ b. not (b == 32)) line

counted : (n : ℕ) → 1 + n ≡ suc n
counted n = omega arith

trim_more : (b : ℕ) (line : List ℕ) (t : Bool) → (b == 32) ≡ t → words_of (drop (start_of line) line) ≡ words_of line → words_of (drop (start_of (b ∷ line)) (b ∷ line)) ≡ words_of (b ∷ line)
trim_more b line true is before = rw (is, counted (start_of line)) before
trim_more b line false is before = rw (is, is) refl

pub words_of-trimmed : (line : List ℕ) → words_of (drop (start_of line) line) ≡ words_of line
words_of-trimmed [] = refl
words_of-trimmed (b ∷ line) = trim_more b line (b == 32) refl (words_of-trimmed line)

-- the first part, and the words of the others
record Splits (line : List ℕ) : Type 0 where
  parts : List (List ℕ)
  split : slice_split is_space line ≡ take (end_of line) line ∷ parts
  rest : filter has_some parts ≡ words_of (drop (end_of line) line)

split_more : (b : ℕ) (line : List ℕ) (t : Bool) → (b == 32) ≡ t → Splits line → Splits (b ∷ line)
split_more b line true is before = record { parts = slice_split is_space line; split = rw is refl; rest = rw (is, is) refl }
split_more b line false is before = record { parts = before.parts; split = rw (is, counted (end_of line)) (ap (onto_first b) before.split); rest = rw (is, counted (end_of line)) before.rest }

split_first : (line : List ℕ) → Splits line
split_first [] = record { parts = []; split = refl; rest = refl }
split_first (b ∷ line) = split_more b line (b == 32) refl (split_first line)

begins_other : (b : ℕ) (line : List ℕ) (t : Bool) → (b == 32) ≡ t → slice_get (drop (start_of line) line) 0 ≢ Some 32 → slice_get (drop (start_of (b ∷ line)) (b ∷ line)) 0 ≢ Some 32
begins_other b line true is before = rw (is, counted (start_of line)) before
begins_other b line false is before = rw is (λ same. let e : b ≡ 32 = Prim.cc in false≢true (sym is ∙ ap is_space e))

pub trimmed-begins : (line : List ℕ) → slice_get (drop (start_of line) line) 0 ≢ Some 32
trimmed-begins [] = λ same. Prim.cc
trimmed-begins (b ∷ line) = begins_other b line (b == 32) refl (trimmed-begins line)

some_before : (b : ℕ) (line : List ℕ) (t : Bool) → (b == 32) ≡ t → b ≢ 32 → 0 < end_of (b ∷ line)
some_before b line true is other = absurd (other (eqb-true _ _ is))
some_before b line false is other = rw is (omega arith)

pub end_of-some : (line : List ℕ) → 0 < length line → slice_get line 0 ≢ Some 32 → 0 < end_of line
end_of-some [] some other = absurd (omega arith)
end_of-some (b ∷ line) some other = some_before b line (b == 32) refl (λ e. other (ap Some e))

has_some-true : (part : List ℕ) → 0 < length part → has_some part ≡ true
has_some-true part some = grind (arith, nat_tests)

-- the first word is as long as what precedes the first space
word_some : (line : List ℕ) → 0 < end_of line → 0 < length (take (end_of line) line)
word_some line some = subst (λ n. 0 < n) (sym (length-prefix_len (λ b. not (b == 32)) line)) some

pub words_of-cut : (line : List ℕ) → 0 < end_of line → words_of line ≡ take (end_of line) line ∷ words_of (drop (end_of line) line)
words_of-cut line some =
    let first = split_first line in
    let kept = has_some-true (take (end_of line) line) (word_some line some) in
    ap (filter has_some) first.split
    ∙ ap (λ t. cond t (take (end_of line) line ∷ filter has_some first.parts) (filter has_some first.parts)) kept
    ∙ ap (λ words. take (end_of line) line ∷ words) first.rest

other_before : (line : List ℕ) (k d : ℕ) → k < length (take (end_of line) line) → get_or (take (end_of line) line) k d ≢ 32
other_before line k d lt is =
    let within : k < end_of line = subst (λ n. k < n) (length-prefix_len (λ b. not (b == 32)) line) lt in
    let fails = fails_before_first (λ b. b == 32) line k d within in
    false≢true (sym fails ∙ ap is_space (sym (get_or-take (end_of line) line k d within) ∙ is))

pub first_is_word : (line : List ℕ) → 0 < end_of line → IsWord (take (end_of line) line)
first_is_word line some = record { some = word_some line some; unbroken = other_before line }
