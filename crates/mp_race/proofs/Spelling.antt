-- A line that is written is read as its words.
use Rattle.std.proofs.Common.{◌≡◌, ◌≢◌, ℕ, suc, ◌+◌, ◌^◌, ◌<◌, ◌≤◌, ◌==◌, true, false, List, [], ◌∷◌, ◌++◌, length, take, drop, refl, ap, ◌∙◌, arith, rules, flat_map, decimal, Some, eqb-true, nat_lt, nat_le}
use Rattle.std.proofs.lemmas.Bool.Decides.{nat_tests}
use Rattle.std.specs.List.{onto_first, list_all}
use Rattle.std.specs.Char.{is_ascii_digit}
use Rattle.std.specs.Str.Parse.{AllDigits}
use Rattle.std.proofs.lemmas.Str.Parse.{IsNumeralModel, numerals_by_weight, tells_digits}
use Rattle.std.proofs.lemmas.Fmt.{decimal_nonempty, length-decimal-le, digits_decimal, digits_value-decimal}
use Rattle.mp_text.specs.Lines.{lines_of}
use Rattle.mp_text.specs.Words.{words_of}
use Rattle.mp_text.specs.Numbers.{value_of_digits, number_of}
use Rattle.mp_text.proofs.Ranges.{range-Decides}
use Rattle.mp_text.proofs.FirstWord.{end_of, words_of-cut}

-- bytes after the space in the order of their codes
abbrev pub IsPlain : List ℕ → Type 0
IsPlain [] = Unit {0}
IsPlain (b ∷ bs) = (32 < b) × IsPlain bs

-- at least one byte, and all of them plain
abbrev pub IsPlainWord : List ℕ → Type 0
IsPlainWord word = (0 < length word) × IsPlain word

abbrev pub ArePlain : List (List ℕ) → Type 0
ArePlain [] = Unit {0}
ArePlain (word ∷ words) = IsPlainWord word × ArePlain words

-- each word with a space before it
abbrev pub spaced : List (List ℕ) → List ℕ
spaced words = flat_map (λ word. 32 ∷ word) words

apart : (a b : ℕ) → a ≢ b → (a == b) ≡ false
apart a b other = elim (a == b) as (λ t. (a == b) ≡ t → t ≡ false) [
  | true ↦ λ same. absurd (other (eqb-true a b same))
  | false ↦ λ differs. refl
] refl

greater : (n b : ℕ) → n < b → (b == n) ≡ false
greater n b lt = apart b n (λ same. absurd (omega (arith, lt, same)))

counted : (n : ℕ) → 1 + n ≡ suc n
counted n = omega arith

-- a word ends where a space is
end_at : (word rest : List ℕ) → IsPlain word → end_of rest ≡ 0 → end_of (word ++ rest) ≡ length word
end_at [] rest plain at = at
end_at (b ∷ word) rest plain at =
    rw (greater 32 b plain.0, counted (end_of (word ++ rest))) (ap suc (end_at word rest plain.1 at))

ends : (words : List (List ℕ)) → end_of (spaced words) ≡ 0
ends [] = refl
ends (word ∷ words) = refl

take-front : (xs ys : List ℕ) → take (length xs) (xs ++ ys) ≡ xs
take-front [] ys = refl
take-front (x ∷ xs) ys = ap (λ l. x ∷ l) (take-front xs ys)

drop-front : (xs ys : List ℕ) → drop (length xs) (xs ++ ys) ≡ ys
drop-front [] ys = refl
drop-front (x ∷ xs) ys = drop-front xs ys

-- the first word, and then the others
pub words-front : (word : List ℕ) (words : List (List ℕ)) → IsPlainWord word → words_of (word ++ spaced words) ≡ word ∷ words_of (spaced words)
words-front word words plain =
    let at : end_of (word ++ spaced words) ≡ length word = end_at word (spaced words) plain.1 (ends words) in
    let some : 0 < end_of (word ++ spaced words) = omega (arith, at, plain.0) in
    words_of-cut (word ++ spaced words) some
    ∙ ap (λ n. take n (word ++ spaced words) ∷ words_of (drop n (word ++ spaced words))) at
    ∙ ap (λ w. w ∷ words_of (drop (length word) (word ++ spaced words))) (take-front word (spaced words))
    ∙ ap (λ r. word ∷ words_of r) (drop-front word (spaced words))

pub words-spaced : (words : List (List ℕ)) → ArePlain words → words_of (spaced words) ≡ words
words-spaced [] plain = refl
words-spaced (word ∷ words) plain =
    let behind : words_of (32 ∷ (word ++ spaced words)) ≡ words_of (word ++ spaced words) = refl in
    behind ∙ words-front word words plain.0 ∙ ap (λ ws. word ∷ ws) (words-spaced words plain.1)

-- bytes without a line feed
abbrev pub IsUnbroken : List ℕ → Type 0
IsUnbroken [] = Unit {0}
IsUnbroken (b ∷ bs) = (b ≢ 10) × IsUnbroken bs

-- a line feed ends the line
pub lines-front : (line rest : List ℕ) → IsUnbroken line → lines_of (line ++ 10 ∷ rest) ≡ line ∷ lines_of rest
lines-front [] rest unbroken = refl
lines-front (b ∷ line) rest unbroken =
    rw (apart b 10 unbroken.0) (ap (onto_first b) (lines-front line rest unbroken.1))

unbroken-append : (xs ys : List ℕ) → IsUnbroken xs → IsUnbroken ys → IsUnbroken (xs ++ ys)
unbroken-append [] ys first second = second
unbroken-append (x ∷ xs) ys first second = (first.0, unbroken-append xs ys first.1 second)

unbroken-plain : (word : List ℕ) → IsPlain word → IsUnbroken word
unbroken-plain [] plain = tt
unbroken-plain (b ∷ word) plain = (λ is. absurd (let lt = plain.0 in omega (arith, lt, is)), unbroken-plain word plain.1)

unbroken-spaced : (words : List (List ℕ)) → ArePlain words → IsUnbroken (spaced words)
unbroken-spaced [] plain = tt
unbroken-spaced (word ∷ words) plain = (λ is. Prim.cc, unbroken-append word (spaced words) (unbroken-plain word plain.0.1) (unbroken-spaced words plain.1))

pub unbroken-line : (word : List ℕ) (words : List (List ℕ)) → ArePlain (word ∷ words) → IsUnbroken (word ++ spaced words)
unbroken-line word words plain = unbroken-append word (spaced words) (unbroken-plain word plain.0.1) (unbroken-spaced words plain.1)

-- Numbers.

plain-digits : (ds : List ℕ) → AllDigits 10 ds → IsPlain ds
plain-digits [] all = tt
plain-digits (d ∷ ds) all =
    let parts = tells_digits.parts d ds all in
    let low = parts.0.0 in
    (omega (arith, low), plain-digits ds parts.1)

pub plain-decimal : (n : ℕ) → n < 2 ^ 64 → IsPlainWord (decimal n)
plain-decimal n fits = (decimal_nonempty n fits, plain-digits (decimal n) (digits_decimal (numerals_by_weight (AllDigits 10) tells_digits value_of_digits (search rules)) n fits))

all_tested : (ds : List ℕ) → AllDigits 10 ds → list_all is_ascii_digit ds ≡ true
all_tested [] all = refl
all_tested (d ∷ ds) all =
    let parts = tells_digits.parts d ds all in
    let first : is_ascii_digit d ≡ true = (range-Decides 48 57 d).1 parts.0 in
    let others : list_all is_ascii_digit ds ≡ true = all_tested ds parts.1 in
    rw (first, others) refl

own : IsNumeralModel (AllDigits 10) value_of_digits
own = numerals_by_weight (AllDigits 10) tells_digits value_of_digits (search rules)

number-digits : (ds : List ℕ) (n : ℕ) → 0 < length ds → length ds ≤ 20 → list_all is_ascii_digit ds ≡ true → value_of_digits ds ≡ n → n < 2 ^ 64 → number_of ds ≡ Some n
number-digits ds n some few all value fits =
    let a : nat_lt 0 (length ds) ≡ true = grind (arith, nat_tests) in
    let b : nat_le (length ds) 20 ≡ true = grind (arith, nat_tests) in
    let below : nat_lt (value_of_digits ds) (2 ^ 64) ≡ true = grind (arith, nat_tests) in
    rw (a, b, all, below) (ap Some value)

-- what is written for a number is read as that number
pub number-decimal : (n : ℕ) → n < 2 ^ 64 → number_of (decimal n) ≡ Some n
number-decimal n fits =
    number-digits (decimal n) n (decimal_nonempty n fits) (length-decimal-le 20 n (omega arith) (omega (arith, fits)) fits) (all_tested (decimal n) (digits_decimal own n fits)) (digits_value-decimal own n fits) fits
