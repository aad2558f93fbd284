-- The first items that fit, found one after the other.
use Rattle.std.proofs.Common.{◌≡◌, ℕ, zero, suc, ◌+◌, ◌-◌, ◌<◌, ◌≤◌, Bool, true, false, cond, List, [], ◌∷◌, ◌++◌, take, length, refl, sym, ap, subst, ◌∙◌, arith, append_assoc}
use Rattle.std.specs.Prelude.{nat_le, sum_by}
use Rattle.std.proofs.lemmas.Bool.Decides.{nat_tests}
use Rattle.std.proofs.lemmas.List.{map-append}
use Rattle.std.proofs.lemmas.List.Sums.{sum_by-append}
use Rattle.mp_tx.specs.Transaction.{Transaction}
use Rattle.mp_tx.specs.Spelling.{size_of}
use Rattle.mp_seqpool.specs.Keep.{transactions, bytes_of}
use Rattle.mp_seqpool.specs.Reading.{within}

fits : (size room : ℕ) → size ≤ room → nat_le size room ≡ true
fits size room le = grind (arith, nat_tests)

of_none : (n : ℕ) → take {A = ℕ × Transaction} n [] ≡ []
of_none zero = refl
of_none (suc n) = refl

-- one more item is found
pub one_found : (count n room bytes : ℕ) (i : ℕ × Transaction) (rest : List (ℕ × Transaction)) → n < count → size_of i.1 ≤ room - bytes
    → take (count - n) (within (room - bytes) (i ∷ rest)) ≡ i ∷ take (count - (n + 1)) (within (room - (bytes + size_of i.1)) rest)
one_found count n room bytes i rest lt le =
    let size : ℕ = size_of i.1 in
    let more : count - n ≡ suc (count - (n + 1)) = omega (arith, lt) in
    let left : (room - bytes) - size ≡ room - (bytes + size) = omega (arith, le) in
    ap (λ b. take (count - n) (cond b (i ∷ within ((room - bytes) - size) rest) [])) (fits size (room - bytes) le)
    ∙ ap (λ m. take m (i ∷ within ((room - bytes) - size) rest)) more
    ∙ ap (λ r. i ∷ take (count - (n + 1)) (within r rest)) left

alone : (i : ℕ × Transaction) → bytes_of (i ∷ []) ≡ size_of i.1
alone i = omega arith

pub bytes-last : (found : List (ℕ × Transaction)) (i : ℕ × Transaction) → bytes_of (found ++ i ∷ []) ≡ bytes_of found + size_of i.1
bytes-last found i =
    ap (sum_by size_of) (map-append (λ i. i.1) found (i ∷ [])) ∙ sum_by-append size_of (transactions found) (i.1 ∷ [])
    ∙ ap (λ n. bytes_of found + n) (alone i)

shorter : (b : Bool) (i : ℕ × Transaction) (xs is : List (ℕ × Transaction)) → length xs ≤ length is → length (cond b (i ∷ xs) []) ≤ suc (length is)
shorter true i xs is le = omega (arith, le)
shorter false i xs is le = omega arith

-- there are at most as many that fit as there are items
length-within : (room : ℕ) (items : List (ℕ × Transaction)) → length (within room items) ≤ length items
length-within room [] = omega arith
length-within room (i ∷ is) = shorter (nat_le (size_of i.1) room) i (within (room - size_of i.1) is) is (length-within (room - size_of i.1) is)

take_long : (n : ℕ) (xs : List (ℕ × Transaction)) → length xs ≤ n → take n xs ≡ xs
take_long n [] le = of_none n
take_long zero (x ∷ xs) le = absurd (omega (arith, le))
take_long (suc n) (x ∷ xs) le = ap (λ l. x ∷ l) (take_long n xs (omega (arith, le)))

pub all_within : (room : ℕ) (items : List (ℕ × Transaction)) → take (length items) (within room items) ≡ within room items
all_within room items = take_long (length items) (within room items) (length-within room items)

-- with one more item there is one less to come
module _ (count room bytes size n m : ℕ) (i : ℕ × Transaction) (found new it rest all : List (ℕ × Transaction)) where
  pub goes_on : it ≡ i ∷ rest → new ≡ found ++ i ∷ [] → m ≡ n + 1 → size ≡ size_of i.1 → n < count → size ≤ room - bytes
      → found ++ take (count - n) (within (room - bytes) it) ≡ take count (within room all) → bytes ≡ bytes_of found → bytes ≤ room
      → (new ++ take (count - m) (within (room - (bytes + size)) rest) ≡ take count (within room all)) × (bytes + size ≡ bytes_of new) × (bytes + size ≤ room) × (m ≤ count)
  goes_on left more next sized lt le are sum fit = (
    ap (λ l. l ++ take (count - m) (within (room - (bytes + size)) rest)) more ∙ append_assoc found (i ∷ []) (take (count - m) (within (room - (bytes + size)) rest))
        ∙ ap (λ k. found ++ i ∷ take (count - k) (within (room - (bytes + size)) rest)) next
        ∙ ap (λ k. found ++ i ∷ take (count - (n + 1)) (within (room - (bytes + k)) rest)) sized
        ∙ ap (λ l. found ++ l) (sym (one_found count n room bytes i rest lt (subst (λ k. k ≤ room - bytes) sized le)))
        ∙ ap (λ l. found ++ take (count - n) (within (room - bytes) l)) (sym left) ∙ are,
    ap (λ k. k + size) sum ∙ ap (λ k. bytes_of found + k) sized ∙ sym (bytes-last found i) ∙ ap bytes_of (sym more),
    omega (arith, le, fit),
    omega (arith, lt, next),
  )
