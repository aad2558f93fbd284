-- Lists, their prefixes and their suffixes.
use Rattle.std.proofs.Common.{◌≡◌, ℕ, zero, suc, ◌<◌, ◌≤◌, Bool, true, false, List, [], ◌∷◌, ◌++◌, length, take, drop, get_or, refl, ap, ◌∙◌, arith}
use Rattle.std.specs.List.{AllByRecursion, AllWithin, flat_map}
use Rattle.std.specs.List.Sorted.{IsNonDecreasingBy}
use Rattle.std.proofs.lemmas.List.{append-nil}
use Rattle.std.proofs.lemmas.List.Concat.{flat_map-append}
use Rattle.mp_tx.specs.Transaction.{Transaction}
use Rattle.mp_versions.specs.Pages.{flattened, joined, last_by}

module _ {T : Type 0} where
  pub last_by-push : (f : T → ℕ) (n : ℕ) (xs : List T) (x : T) → last_by f n (xs ++ x ∷ []) ≡ f x
  last_by-push f n [] x = refl
  last_by-push f n (y ∷ ys) x = last_by-push f (f y) ys x

  pub last_by-append : (f : T → ℕ) (n : ℕ) (xs ys : List T) → last_by f n (xs ++ ys) ≡ last_by f (last_by f n xs) ys
  last_by-append f n [] ys = refl
  last_by-append f n (x ∷ xs) ys = last_by-append f (f x) xs ys

  -- each number is at least the one before it
  abbrev pub Climbs : (T → ℕ) → ℕ → List T → Type 0
  Climbs f low [] = Unit {0}
  Climbs f low (x ∷ xs) = (low ≤ f x) × Climbs f (f x) xs

  climbs-at : (f : T → ℕ) (low : ℕ) (xs : List T) → Climbs f low xs → (j : ℕ) (d : T) → j < length xs → low ≤ f (get_or xs j d)
  climbs-at f low [] c j d h = let none : length {A = T} [] ≡ 0 = refl in absurd (omega arith)
  climbs-at f low (x ∷ xs) c zero d h = c.0
  climbs-at f low (x ∷ xs) c (suc j) d h = let more : length (x ∷ xs) ≡ suc (length xs) = refl in let k = climbs-at f (f x) xs c.1 j d (omega arith) in let l = c.0 in omega arith

  pub climbs : (f : T → ℕ) (low : ℕ) (xs : List T) → Climbs f low xs → IsNonDecreasingBy f xs
  climbs f low [] c i j d h l = let none : length {A = T} [] ≡ 0 = refl in absurd (omega arith)
  climbs f low (x ∷ xs) c zero zero d h l = omega arith
  climbs f low (x ∷ xs) c zero (suc j) d h l = let more : length (x ∷ xs) ≡ suc (length xs) = refl in climbs-at f (f x) xs c.1 j d (omega arith)
  climbs f low (x ∷ xs) c (suc i) zero d h l = absurd (omega arith)
  climbs f low (x ∷ xs) c (suc i) (suc j) d h l = let more : length (x ∷ xs) ≡ suc (length xs) = refl in climbs f (f x) xs c.1 i j d (omega arith) (omega arith)

  -- the first element, if there is one, fails the test
  abbrev pub FirstFails : (T → Bool) → List T → Type 0
  FirstFails p [] = Unit {0}
  FirstFails p (x ∷ xs) = p x ≡ false

  pub passes : (p : T → Bool) (xs : List T) (i : ℕ) → i ≤ length xs → AllWithin (λ y. p y ≡ true) xs 0 i → AllByRecursion (λ y. p y ≡ true) (take i xs)
  passes p xs zero l w = tt
  passes p [] (suc i) l w = tt
  passes p (x ∷ xs) (suc i) l w = let more : length (x ∷ xs) ≡ suc (length xs) = refl in (w 0 x (omega arith) (omega arith), passes p xs i (omega arith) (λ k d m h. w (suc k) d (omega arith) (omega arith)))

  pub fails : (p : T → Bool) (xs : List T) (i : ℕ) → AllWithin (λ y. p y ≡ false) xs i (length xs) → FirstFails p (drop i xs)
  fails p [] zero w = tt
  fails p [] (suc i) w = tt
  fails p (x ∷ xs) zero w = let more : length (x ∷ xs) ≡ suc (length xs) = refl in w 0 x (omega arith) (omega arith)
  fails p (x ∷ xs) (suc i) w = let more : length (x ∷ xs) ≡ suc (length xs) = refl in fails p xs i (λ k d m h. w (suc k) d (omega arith) (omega arith))

  pub flattened-append : (xs ys : List (List T)) → flattened (xs ++ ys) ≡ flattened xs ++ flattened ys
  flattened-append xs ys = flat_map-append (λ l. l) xs ys

  pub flattened-one : (x : List T) → flattened (x ∷ []) ≡ x
  flattened-one x = append-nil x

  pub flattened-push : (xs : List (List T)) (x : List T) → flattened (xs ++ x ∷ []) ≡ flattened xs ++ x
  flattened-push xs x = flattened-append xs (x ∷ []) ∙ ap (λ l. flattened xs ++ l) (flattened-one x)

  -- lists of lists, each flattened first
  pub flat_flat : (xs : List (List (List T))) → flattened (flattened xs) ≡ flat_map (λ x. flattened x) xs
  flat_flat [] = refl
  flat_flat (x ∷ xs) = flattened-append x (flattened xs) ∙ ap (λ l. flattened x ++ l) (flat_flat xs)

pub joined-append : (xs ys : List (List (List (ℕ × Transaction)))) → joined (xs ++ ys) ≡ joined xs ++ joined ys
joined-append xs ys = ap flattened (flattened-append xs ys) ∙ flattened-append (flattened xs) (flattened ys)

pub joined-push : (xs : List (List (List (ℕ × Transaction)))) (x : List (List (ℕ × Transaction))) → joined (xs ++ x ∷ []) ≡ joined xs ++ flattened x
joined-push xs x = joined-append xs (x ∷ []) ∙ ap (λ l. joined xs ++ flattened l) (flattened-one x)
