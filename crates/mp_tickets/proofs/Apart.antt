-- The values of a store have distinct addresses, so a pointer leads to one value.
use Rattle.std.proofs.Common.{◌≡◌, true, false, cond, List, [], ◌∷◌, ◌++◌, refl, sym, ◌∙◌, subst, append-nil}
use Rattle.std.specs.List.{AllByRecursion}
use Rattle.std.proofs.lemmas.List.{map-append}
use denote.RawPtr.{Ptr}
use Rattle.lru.specs.Linked.{same_ptr, IsApart}
use Rattle.lru.proofs.Splits.{all_left, all_right, distinct_without, distinct_differs, distinct_with, alike_cut}
use Rattle.lru.proofs.Apart.{same_ptr_refl, same_ptr_symm}
use Rattle.mp_tickets.specs.Inside.Cell.{Cell, cell, ptrs, AtCell, set_value}

module _ {N : Type 0} where
  abbrev pub IsFresh : Ptr → List (Cell N) → Type 0
  IsFresh p = AllByRecursion (λ c. same_ptr p c.at ≡ false)

  pub apart_without : (xs : List (Cell N)) (c : Cell N) (ys : List (Cell N)) → IsApart (ptrs (xs ++ c ∷ ys)) → IsApart (ptrs (xs ++ ys))
  apart_without = distinct_without (λ (c : Cell N). c.at) same_ptr

  pub apart_with : (cs : List (Cell N)) (c : Cell N) → IsFresh c.at cs → IsApart (ptrs cs) → IsApart (ptrs (cs ++ c ∷ []))
  apart_with cs c f d =
      distinct_with (λ (k : Cell N). k.at) same_ptr same_ptr_symm cs c []
      (subst (IsFresh c.at) (sym (append-nil cs)) f) (subst (λ l. IsApart (ptrs l)) (sym (append-nil cs)) d)

  pub same_cell : (cs xs : List (Cell N)) (c : Cell N) (ys us : List (Cell N)) (k : Cell N) (vs : List (Cell N)) → IsApart (ptrs cs) → cs ≡ xs ++ c ∷ ys → cs ≡ us ++ k ∷ vs → c.at ≡ k.at
      → (xs ≡ us) × (c ≡ k) × (ys ≡ vs)
  same_cell cs xs c ys us k vs d a b at =
      alike_cut (λ (n : Cell N). n.at) same_ptr same_ptr_symm xs c ys us k vs (subst (λ l. IsApart (ptrs l)) a d) (sym a ∙ b) (subst (λ r. same_ptr c.at r ≡ true) at (same_ptr_refl c.at))

  elsewhere : (p : Ptr) (w : N) (cs : List (Cell N)) → IsFresh p cs → set_value p w cs ≡ cs
  unfolding set_value
  elsewhere p w [] h = refl
  elsewhere p w (c ∷ cs) h = λ i. cell c.at (cond ((same_ptr_symm c.at p ∙ h.0) i) w c.value) ∷ elsewhere p w cs h.1 i

  pub set_value-cut : (xs : List (Cell N)) (c : Cell N) (ys : List (Cell N)) (w : N) → IsApart (ptrs (xs ++ c ∷ ys)) → set_value c.at w (xs ++ c ∷ ys) ≡ xs ++ cell c.at w ∷ ys
  unfolding set_value
  set_value-cut xs c ys w d =
      let P : Cell N → Type 0 = λ k. same_ptr c.at k.at ≡ false in
      let others = distinct_differs (λ (k : Cell N). k.at) same_ptr same_ptr_symm xs c ys d in
      map-append (λ (k : Cell N). cell k.at (cond (same_ptr k.at c.at) w k.value)) xs (c ∷ ys)
      ∙ (λ i. elsewhere c.at w xs (all_left P xs ys others) i ++ cell c.at (cond (same_ptr_refl c.at i) w c.value) ∷ elsewhere c.at w ys (all_right P xs ys others) i)

  -- changing the value at p changes the one cell there
  pub changed : (cs : List (Cell N)) (p : Ptr) (change : N → N) (v : N) → IsApart (ptrs cs) → AtCell cs p (λ _ c _. v ≡ c.value)
      → AtCell cs p (λ xs c ys. set_value p (change v) cs ≡ xs ++ cell c.at (change c.value) ∷ ys)
  changed cs p change v d told xs c ys cut at =
      (λ i. set_value (sym at i) (change (told xs c ys cut at i)) (cut i)) ∙ set_value-cut xs c ys (change c.value) (subst (λ l. IsApart (ptrs l)) cut d)
