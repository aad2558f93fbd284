-- The first item that isn't good, as a search finds it.
use Rattle.std.proofs.Common.{◌≡◌, ℕ, suc, ◌+◌, ◌<◌, Bool, true, false, cond, not, ◌||◌, List, [], ◌∷◌, length, take, refl, sym, ap, subst, ◌∙◌, arith}
use Rattle.std.specs.Prelude.{Option, None, Some, All, HoldsAt, Decides, nat_lt, option_map}
use Rattle.std.specs.List.{find, list_any, position, position_or_len, range_with_len}
use Rattle.std.proofs.lemmas.Bool.Decides.{nat_tests}
use Rattle.std.proofs.lemmas.List.{get_or-take, length-take}
use Rattle.std.proofs.lemmas.List.Elements.{All-nil, All-cons, All-head, All-tail}
use Rattle.std.proofs.lemmas.List.FromFn.{length-range_with_len, get_or-range_with_len}
use Rattle.mp_rules.specs.Laws.{IsFirstBad}

-- ---- options

pub unmapped : {A B : Type 0} (f : A → B) (o : Option A) → option_map f o ≡ None → o ≡ None
unmapped f None e = refl
unmapped f (Some x) e = Prim.cc

-- the item before the map
pub record IsMapped {A B : Type 0} (f : A → B) (o : Option A) (y : B) : Type 0 where
  pub from : A
  pub found : o ≡ Some from
  pub same : f from ≡ y

pub mapped : {A B : Type 0} (f : A → B) (o : Option A) (y : B) → option_map f o ≡ Some y → IsMapped f o y
mapped f None y e = Prim.cc
mapped f (Some x) y e = record { from = x; found = refl; same = Prim.cc }

-- ---- a test that detects what isn't good

pub record Refutes {X : Type 0} (p : X → Bool) (Good : X → Type 0) : Type 0 where
  pub bad : (x : X) → p x ≡ true → Good x → ⊥
  pub good : (x : X) → p x ≡ false → Good x

pub not_so : (b : Bool) → b ≡ true → not b ≡ true → ⊥
not_so true h k = Prim.cc
not_so false h k = Prim.cc

pub so : (b : Bool) → not b ≡ false → b ≡ true
so true h = refl
so false h = Prim.cc

pub refutes : {X : Type 0} (test : X → Bool) (Good : X → Type 0) → ((x : X) → Decides (test x) (Good x)) → Refutes (λ x. not (test x)) Good
refutes test Good decides = record {
  bad = λ x h k. not_so (test x) ((decides x).1 k) h;
  good = λ x h. (decides x).0 (so (test x) h);
}

module _ {X : Type 0} (Good : X → Type 0) where
  at_once : (x : X) (xs : List X) → (Good x → ⊥) → IsFirstBad Good (x ∷ xs) 0
  at_once x xs h = record { within = omega arith; bad = λ d. h; before = All-nil Good }

  later : (x : X) (xs : List X) (k : ℕ) → Good x → IsFirstBad Good xs k → IsFirstBad Good (x ∷ xs) (suc k)
  later x xs k g h = record {
    within = let lt = h.within in omega arith;
    bad = λ d. h.bad d;
    before = All-cons Good x (take k xs) g h.before;
  }

module _ {X : Type 0} (p : X → Bool) where
  position-cons : (x : X) (xs : List X) → position p (x ∷ xs) ≡ cond (p x) (Some 0) (option_map suc (position p xs))
  position-cons x xs = by (p x)
    where
      further : (n m : ℕ) → cond (nat_lt (1 + n) (suc m)) (Some (1 + n)) None ≡ option_map suc (cond (nat_lt n m) (Some n) None)
      further n m = grind (arith, nat_tests)

      by : (v : Bool) → cond (nat_lt (cond (not v) (1 + position_or_len p xs) 0) (length (x ∷ xs))) (Some (cond (not v) (1 + position_or_len p xs) 0)) None ≡ cond v (Some 0) (option_map suc (position p xs))
      by true = grind (arith, nat_tests)
      by false = further (position_or_len p xs) (length xs)

module _ {X : Type 0} (p : X → Bool) (Good : X → Type 0) (tells : Refutes p Good) where
  -- ---- by index

  pub all_good : (xs : List X) → position p xs ≡ None → All Good xs
  all_good [] e = All-nil Good
  all_good (x ∷ xs) e = elim (p x) as (λ v. p x ≡ v → cond v (Some 0) (option_map suc (position p xs)) ≡ None → All Good (x ∷ xs)) [
    | true ↦ λ h e. absurd (let f = e in Prim.cc)
    | false ↦ λ h e. All-cons Good x xs (tells.good x h) (all_good xs (unmapped suc (position p xs) e))
  ] refl (sym (position-cons p x xs) ∙ e)

  pub none_bad : (xs : List X) → All Good xs → position p xs ≡ None
  none_bad [] all = refl
  none_bad (x ∷ xs) all = position-cons p x xs ∙ elim (p x) as (λ v. p x ≡ v → cond v (Some 0) (option_map suc (position p xs)) ≡ None) [
    | true ↦ λ h. absurd (tells.bad x h (All-head Good x xs all))
    | false ↦ λ h. ap (option_map suc) (none_bad xs (All-tail Good x xs all))
  ] refl

  pub first_bad : (xs : List X) (k : ℕ) → position p xs ≡ Some k → IsFirstBad Good xs k
  first_bad [] k e = absurd (let f = e in Prim.cc)
  first_bad (x ∷ xs) k e = elim (p x) as (λ v. p x ≡ v → cond v (Some 0) (option_map suc (position p xs)) ≡ Some k → IsFirstBad Good (x ∷ xs) k) [
    | true ↦ λ h e. subst (IsFirstBad Good (x ∷ xs)) (let f = e in Prim.cc) (at_once Good x xs (tells.bad x h))
    | false ↦ λ h e.
        let at = mapped suc (position p xs) k e in
        subst (IsFirstBad Good (x ∷ xs)) at.same (later Good x xs at.from (tells.good x h) (first_bad xs at.from at.found))
  ] refl (sym (position-cons p x xs) ∙ e)

  -- ---- by item

  pub all_good_found : (xs : List X) → find p xs ≡ None → All Good xs
  all_good_found [] e = All-nil Good
  all_good_found (x ∷ xs) e = elim (p x) as (λ v. p x ≡ v → cond v (Some x) (find p xs) ≡ None → All Good (x ∷ xs)) [
    | true ↦ λ h e. absurd (let f = e in Prim.cc)
    | false ↦ λ h e. All-cons Good x xs (tells.good x h) (all_good_found xs e)
  ] refl e

  pub none_found : (xs : List X) → All Good xs → find p xs ≡ None
  none_found [] all = refl
  none_found (x ∷ xs) all = elim (p x) as (λ v. p x ≡ v → cond v (Some x) (find p xs) ≡ None) [
    | true ↦ λ h. absurd (tells.bad x h (All-head Good x xs all))
    | false ↦ λ h. none_found xs (All-tail Good x xs all)
  ] refl

  -- the item is the first that isn't good
  pub record IsFirstFound (xs : List X) (y : X) : Type 0 where
    pub place : ℕ
    pub first : IsFirstBad Good xs place
    pub stands : HoldsAt (λ x. x ≡ y) xs place

  pub first_found : (xs : List X) (y : X) → find p xs ≡ Some y → IsFirstFound xs y
  first_found [] y e = absurd (let f = e in Prim.cc)
  first_found (x ∷ xs) y e = elim (p x) as (λ v. p x ≡ v → cond v (Some x) (find p xs) ≡ Some y → IsFirstFound (x ∷ xs) y) [
    | true ↦ λ h e. record { place = 0; first = at_once Good x xs (tells.bad x h); stands = λ d. let f = e in Prim.cc }
    | false ↦ λ h e.
        let at = first_found xs y e in
        record { place = suc at.place; first = later Good x xs at.place (tells.good x h) at.first; stands = λ d. at.stands d }
  ] refl e

-- ---- numbers from 0 on

module _ (Good : ℕ → Type 0) (n : ℕ) where
  pub each_below : All Good (range_with_len 0 n) → (k : ℕ) → k < n → Good k
  each_below all k lt =
      subst Good (get_or-range_with_len 0 n k k lt ∙ omega arith) (all k k (subst (λ m. k < m) (sym (length-range_with_len 0 n)) lt))

  pub all_below : ((k : ℕ) → k < n → Good k) → All Good (range_with_len 0 n)
  all_below each k d lt =
      let below : k < n = subst (λ m. k < m) (length-range_with_len 0 n) lt in
      subst Good (sym (get_or-range_with_len 0 n k d below ∙ omega arith)) (each k below)

  pub record IsFirstNumber (k : ℕ) : Type 0 where
    pub within : k < n
    pub bad : Good k → ⊥
    pub before : (j : ℕ) → j < k → Good j

  pub first_number : (k : ℕ) → IsFirstBad Good (range_with_len 0 n) k → IsFirstNumber k
  first_number k h =
      let below : k < n = subst (λ m. k < m) (length-range_with_len 0 n) h.within in
      let range : List ℕ = range_with_len 0 n in
      record {
        within = below;
        bad = subst (λ (i : ℕ). Good i → ⊥) (get_or-range_with_len 0 n k k below ∙ omega arith) (h.bad k);
        before = λ j lt.
            let under : j < n = omega arith in
            let long : j < length (take k range) = omega (arith, length-take k range, length-range_with_len 0 n) in
            subst Good (get_or-take k range j j lt ∙ get_or-range_with_len 0 n j j under ∙ omega arith) (h.before j j long);
      }

-- ---- a list with an item that isn't good

any_bad : {X : Type 0} (p : X → Bool) (Good : X → Type 0) → Refutes p Good → (xs : List X) → list_any p xs ≡ true → All Good xs → ⊥
any_bad p Good tells [] e all = let f = e in Prim.cc
any_bad p Good tells (x ∷ xs) e all = elim (p x) as (λ v. p x ≡ v → (v || list_any p xs) ≡ true → ⊥) [
  | true ↦ λ h e. tells.bad x h (All-head Good x xs all)
  | false ↦ λ h e. any_bad p Good tells xs e (All-tail Good x xs all)
] refl e

any_good : {X : Type 0} (p : X → Bool) (Good : X → Type 0) → Refutes p Good → (xs : List X) → list_any p xs ≡ false → All Good xs
any_good p Good tells [] e = All-nil Good
any_good p Good tells (x ∷ xs) e = elim (p x) as (λ v. p x ≡ v → (v || list_any p xs) ≡ false → All Good (x ∷ xs)) [
  | true ↦ λ h e. absurd (let f = e in Prim.cc)
  | false ↦ λ h e. All-cons Good x xs (tells.good x h) (any_good p Good tells xs e)
] refl e

pub any_refutes : {X : Type 0} (p : X → Bool) (Good : X → Type 0) → Refutes p Good → Refutes (list_any p) (All Good)
any_refutes p Good tells = record { bad = any_bad p Good tells; good = any_good p Good tells }
