-- Strictly increasing tickets.
use Rattle.std.proofs.Common.{◌≡◌, ℕ, zero, suc, ◌+◌, ◌<◌, ◌≤◌, true, List, [], ◌∷◌, length, take, drop, get_or, refl, subst, arith}
use Rattle.std.specs.Prelude.{nat_lt}
use Rattle.std.specs.List.{AllByRecursion}
use Rattle.std.specs.List.Sorted.{IsStrictlyIncreasing, IsNonDecreasingBy}
use Rattle.std.proofs.lemmas.Bool.{ltb-true}
use Rattle.mp_versions.proofs.Parts.{Climbs, climbs}

-- each is less than all that come after it
abbrev pub Ascends : List ℕ → Type 0
Ascends [] = Unit {0}
Ascends (t ∷ ts) = AllByRecursion (λ u. t < u) ts × Ascends ts

tail : (t : ℕ) (ts : List ℕ) → IsStrictlyIncreasing (t ∷ ts) → IsStrictlyIncreasing ts
tail t ts up k h =
    let more : length (t ∷ ts) ≡ suc (length ts) = refl in
    let e : suc k + 1 ≡ suc (k + 1) = omega arith in
    subst (λ n. get_or (t ∷ ts) (suc k) 0 < get_or (t ∷ ts) n 0) e (up (suc k) (omega arith))

above : (m : ℕ) (ts : List ℕ) → IsStrictlyIncreasing ts → (0 < length ts → m < get_or ts 0 0) → AllByRecursion (λ u. m < u) ts
above m [] up h = tt
above m (t ∷ ts) up h =
    let more : length (t ∷ ts) ≡ suc (length ts) = refl in
    let first : m < t = h (omega arith) in
    (first, above m ts (tail t ts up) (λ l. let next : t < get_or ts 0 0 = up 0 (omega arith) in omega arith))

pub ascends : (ts : List ℕ) → IsStrictlyIncreasing ts → Ascends ts
ascends [] up = tt
ascends (t ∷ ts) up =
    let more : length (t ∷ ts) ≡ suc (length ts) = refl in
    (above t ts (tail t ts up) (λ l. up 0 (omega arith)), ascends ts (tail t ts up))

climbing : (low : ℕ) (ts : List ℕ) → AllByRecursion (λ u. low < u) ts → Ascends ts → Climbs (λ t. t) low ts
climbing low [] a s = tt
climbing low (t ∷ ts) a s = let k = a.0 in (omega arith, climbing t ts s.0 s.1)

pub falls_not : (ts : List ℕ) → IsStrictlyIncreasing ts → IsNonDecreasingBy (λ t. t) ts
falls_not [] up = climbs (λ t. t) 0 [] tt
falls_not (t ∷ ts) up = let s = ascends (t ∷ ts) up in climbs (λ t. t) 0 (t ∷ ts) (omega arith, climbing t ts s.0 s.1)

-- the first, if there is one, is greater
abbrev pub BeginsAbove : ℕ → List ℕ → Type 0
BeginsAbove last [] = Unit {0}
BeginsAbove last (t ∷ ts) = last < t

beyond : (first last m : ℕ) (ts : List ℕ) → last < m → AllByRecursion (λ u. m < u) ts → AllByRecursion (λ t. first ≤ t → t ≤ last → ⊥) ts
beyond first last m [] l a = tt
beyond first last m (t ∷ ts) l a = let k = a.0 in ((λ f h. omega arith), beyond first last m ts l a.1)

-- those before the index are less than the first, and those after it are greater than the last
pub outside : (first last : ℕ) (ts : List ℕ) (i : ℕ) → Ascends ts → AllByRecursion (λ t. nat_lt t first ≡ true) (take i ts) → BeginsAbove last (drop i ts) → AllByRecursion (λ t. first ≤ t → t ≤ last → ⊥) ts
outside first last [] i s a b = tt
outside first last (t ∷ ts) zero s a b = let k : last < t = b in ((λ f h. omega arith), beyond first last t ts b s.0)
outside first last (t ∷ ts) (suc i) s a b = let k = ltb-true t first a.0 in ((λ f h. omega arith), outside first last ts i s.1 a.1 b)

pub ascends-drop : (ts : List ℕ) (i : ℕ) → Ascends ts → Ascends (drop i ts)
ascends-drop ts zero s = s
ascends-drop [] (suc i) s = tt
ascends-drop (t ∷ ts) (suc i) s = ascends-drop ts i s.1
