-- Lines that begin with a word or a number.
use Rattle.std.proofs.Common.{◌≡◌, ◌≢◌, ℕ, ◌+◌, ◌%◌, ◌^◌, ◌<◌, List, [], ◌∷◌, ◌++◌, length, refl, sym, ap, subst, ◌∙◌, arith, append_assoc, length-append, codes, decimal, MatchOption, Option, None, Some, IfSome, inl, inr, Bool, true, false}
use Rattle.std.specs.Prelude.{IfNone}
use Rattle.std.specs.Borrow.{Bor}
use Rattle.std.proofs.lemmas.Fmt.{decimal_by_steps}
use Rattle.std.proofs.lemmas.Bool.{cases_lt}
use Rattle.mp_replay.specs.declared.fault.ReplayFault.{ReplayFault}
use Rattle.mp_replay.specs.declared.fault.ReplayFault.TheVariants.{NoMemory, BadLine, NoAnswer, WrongAnswer, WrongPlace, BadCaller}
use Rattle.mp_replay.specs.ServedHistory.{IsLineOf, IsEntry, Records, number_front, entry_front, entry_line}
use Rattle.mp_replay.specs.ReplayFault.{HasFront, HasNoCaller, IsNoEntry, IsMisrecorded}

-- ---- what follows a prefix

pub same_rest : (front xs ys : List ℕ) → front ++ xs ≡ front ++ ys → xs ≡ ys
same_rest [] xs ys same = same
same_rest (b ∷ front) xs ys same = same_rest front xs ys (Prim.cc)

pub some_behind : (text front : List ℕ) (o : Option (Bor (List ℕ))) → MatchOption o ((rest : List ℕ) → text ≢ front ++ rest) (λ x. text ≡ front ++ x.now) → IfSome o (λ rest. text ≡ front ++ rest.now)
some_behind text front None is = tt
some_behind text front (Some rest) is = is

pub none_behind : (text front : List ℕ) (o : Option (Bor (List ℕ))) → MatchOption o ((rest : List ℕ) → text ≢ front ++ rest) (λ x. text ≡ front ++ x.now) → IfNone o (HasFront text front → ⊥)
none_behind text front None is = λ has. is has.0 has.1
none_behind text front (Some rest) is = tt

false_is_true : false ≡ true → ⊥
false_is_true same = absurd (Prim.cc)

-- ---- a text and its line

pub is_line : (text line rest : List ℕ) → text ≡ line ++ rest → rest ≡ 10 ∷ [] → IsLineOf text line
is_line text line rest is one = is ∙ ap (λ r. line ++ r) one

-- ---- a number and a space

number_split : (n : ℕ) (rest : List ℕ) → number_front n ++ rest ≡ decimal n ++ 32 ∷ rest
number_split n rest = append_assoc (decimal n) (32 ∷ []) rest

pub no_space : (text rest : List ℕ) (n : ℕ) → text ≡ decimal n ++ rest → (HasFront rest (32 ∷ []) → ⊥) → HasFront text (number_front n) → ⊥
no_space text rest n is apart has = apart (has.0, same_rest (decimal n) rest (32 ∷ has.0) (sym is ∙ has.1 ∙ number_split n has.0))

pub none_behind_number : (text digits rest : List ℕ) (n : ℕ) (o : Option (Bor (List ℕ))) → digits ≡ decimal n → text ≡ digits ++ rest
    → IfNone o (HasFront rest (32 ∷ []) → ⊥) → IfNone o (HasFront text (number_front n) → ⊥)
none_behind_number text digits rest n None are is apart = no_space text rest n (is ∙ ap (λ d. d ++ rest) are) apart
none_behind_number text digits rest n (Some after) are is apart = tt

-- none of the callers so far comes first
abbrev pub NoneOf : List ℕ → ℕ → Type 0
NoneOf text count = (caller : ℕ) → caller < count → HasFront text (number_front caller) → ⊥

pub none_more : (text : List ℕ) (count : ℕ) → NoneOf text count → (HasFront text (number_front count) → ⊥) → NoneOf text (count + 1)
none_more text count before last caller few = elim (cases_lt caller count) [
  | inl less ↦ before caller less
  | inr least ↦ subst (λ k. HasFront text (number_front k) → ⊥) (omega (arith, few, least)) last
]

-- ---- a number ends at its space

abbrev IsUnspaced : List ℕ → Type 0
IsUnspaced [] = Unit {0}
IsUnspaced (b ∷ bs) = (b ≢ 32) × IsUnspaced bs

unspaced-append : (xs ys : List ℕ) → IsUnspaced xs → IsUnspaced ys → IsUnspaced (xs ++ ys)
unspaced-append [] ys first second = second
unspaced-append (x ∷ xs) ys first second = (first.0, unspaced-append xs ys first.1 second)

no_such : (n : ℕ) → 48 + n ≡ 32 → ⊥
no_such n same = omega (arith, same)

unspaced-decimal : (n : ℕ) → n < 2 ^ 64 → IsUnspaced (decimal n)
unspaced-decimal n fits =
    decimal_by_steps (λ m digits. IsUnspaced digits) (λ m few. (no_such m, tt))
    (λ m digits many are. unspaced-append digits ((48 + m % 10) ∷ []) are (no_such (m % 10), tt)) n fits

cut_alike : (xs us ys vs : List ℕ) → IsUnspaced xs → IsUnspaced us → xs ++ 32 ∷ ys ≡ us ++ 32 ∷ vs → ys ≡ vs
cut_alike [] [] ys vs first second same = Prim.cc
cut_alike [] (u ∷ us) ys vs first second same = absurd (second.0 (Prim.cc))
cut_alike (x ∷ xs) [] ys vs first second same = absurd (first.0 (Prim.cc))
cut_alike (x ∷ xs) (u ∷ us) ys vs first second same = cut_alike xs us ys vs first.1 second.1 (Prim.cc)

-- one line records one answer
one_answer : (place c d : ℕ) (a b : List ℕ) → c < 64 → d < 64 → entry_line place c a ≡ entry_line place d b → a ≡ b
one_answer place c d a b few less same =
    let behind : number_front c ++ a ≡ number_front d ++ b = same_rest (entry_front place) (number_front c ++ a) (number_front d ++ b) same in
    cut_alike (decimal c) (decimal d) a b (unspaced-decimal c (omega (arith, few))) (unspaced-decimal d (omega (arith, less)))
    (sym (number_split c a) ∙ behind ∙ number_split d b)

-- ---- the line of an entry

-- it begins with the place
placed : (place : ℕ) (text line : List ℕ) → IsEntry place text line → HasFront line (entry_front place)
placed place text line (caller, answer, few, is, of) = (number_front caller ++ answer, is)

begun : (place : ℕ) (line : List ℕ) → HasFront line (entry_front place) → HasFront line (codes "entry ")
begun place line (rest, is) = (number_front place ++ rest, is ∙ append_assoc (codes "entry ") (number_front place) rest)

-- what follows the word and the place
pub behind_front : (place : ℕ) (line rest after : List ℕ) → line ≡ codes "entry " ++ rest → rest ≡ number_front place ++ after → line ≡ entry_front place ++ after
behind_front place line rest after is of =
    is ∙ ap (λ r. codes "entry " ++ r) of ∙ sym (append_assoc (codes "entry ") (number_front place) after)

pub no_caller : (place : ℕ) (line after : List ℕ) → line ≡ entry_front place ++ after
    → ((caller : ℕ) → caller < 64 → HasFront after (number_front caller) → ⊥) → HasNoCaller place line
no_caller place line after is none = (
  (after, is),
  λ caller answer few same. none caller few
      (answer, same_rest (entry_front place) after (number_front caller ++ answer) (sym is ∙ same)),
)

-- ---- lines that don't record the answer

pub mis_entry : (n place : ℕ) (text line : List ℕ) (fault : ReplayFault) → (IsLineOf text line → ⊥) → IsNoEntry n place line fault → IsMisrecorded n place text line fault
mis_entry n place text line NoMemory other is = absurd is
mis_entry n place text line (BadLine at reason) other is = absurd is
mis_entry n place text line (NoAnswer at) other is = absurd is
mis_entry n place text line (WrongAnswer at) other is = record {
  no_answer = other;
  no_entry = λ e. is.1 (begun place line (placed place text line e));
  why = (is.0, λ h. is.1 h.0, λ h. is.1 (begun place line h.0));
}
mis_entry n place text line (WrongPlace at) other is = record {
  no_answer = other;
  no_entry = λ e. is.1.1 (placed place text line e);
  why = is;
}
mis_entry n place text line (BadCaller at) other is = record {
  no_answer = other;
  no_entry = λ (caller, answer, few, same, of). is.1.1 caller answer few same;
  why = is;
}

pub not_line : (text line : List ℕ) (found : Bool) → found ≡ false → (IsLineOf text line → found ≡ true) → IsLineOf text line → ⊥
not_line text line found is if_line of = absurd (false_is_true (sym is ∙ if_line of))

pub mis_answer : (n place : ℕ) (text line answer : List ℕ) → (IsLineOf text line → ⊥)
    → (caller : ℕ) × (caller < 64) × (line ≡ entry_line place caller answer) → (IsLineOf text answer → ⊥)
    → IsMisrecorded n place text line (WrongAnswer n)
mis_answer n place text line answer other (caller, few, is) differs = record {
  no_answer = other;
  no_entry = λ (d, b, less, same, of). differs (subst (IsLineOf text) (one_answer place d caller b answer less few (sym same ∙ is)) of);
  why = (refl, λ h. h.1 (number_front caller ++ answer, is), λ h. h.1 caller answer few is);
}

pub records : (place : ℕ) (text line answer : List ℕ) → (caller : ℕ) × (caller < 64) × (line ≡ entry_line place caller answer)
    → IsLineOf text answer → Records place text line (place + 1)
records place text line answer (caller, few, is) of = inr ((caller, answer, few, is, of), refl)

-- ---- the number of entries is known

longer : (place caller : ℕ) (answer : List ℕ) → length answer < length (entry_line place caller answer)
longer place caller answer =
    let whole = length-append (entry_front place) (number_front caller ++ answer) in
    let behind = length-append (number_front caller) answer in
    let begins = length-append (codes "entry ") (number_front place) in
    omega (arith, whole, behind, begins)

not_both : (place : ℕ) (text line : List ℕ) → IsLineOf text line → IsEntry place text line → ⊥
not_both place text line same (caller, answer, few, is, of) =
    let long : length line ≡ length (entry_line place caller answer) = ap length is in
    let one : length (line ++ 10 ∷ []) ≡ length (answer ++ 10 ∷ []) = ap length (sym same ∙ of) in
    let first = length-append line (10 ∷ []) in
    let second = length-append answer (10 ∷ []) in
    let more = longer place caller answer in
    omega (arith, long, one, first, second, more)

pub one_number : (place : ℕ) (text line : List ℕ) (m k : ℕ) → Records place text line m → Records place text line k → m ≡ k
one_number place text line m k (inl (same, is)) (inl (again, also)) = is ∙ sym also
one_number place text line m k (inl (same, is)) (inr (entry, also)) = absurd (not_both place text line same entry)
one_number place text line m k (inr (entry, is)) (inl (same, also)) = absurd (not_both place text line same entry)
one_number place text line m k (inr (entry, is)) (inr (again, also)) = is ∙ sym also
