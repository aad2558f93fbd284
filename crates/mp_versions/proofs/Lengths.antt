-- The lengths of concatenated lists.
use Rattle.std.proofs.Common.{◌≡◌, ℕ, zero, suc, ◌+◌, ◌<◌, ◌≤◌, List, [], ◌∷◌, ◌++◌, length, take, get_or, refl, ap, ◌∙◌, arith}
use Rattle.mp_versions.specs.Pages.{flattened}

module _ {T : Type 0} where
  pub length_joined : (xs ys : List T) → length (xs ++ ys) ≡ length xs + length ys
  length_joined [] ys = omega arith
  length_joined (x ∷ xs) ys = ap suc (length_joined xs ys) ∙ omega arith

  -- those before one of the lists and those in it are at most all
  pub part_length : (xs : List (List T)) (k : ℕ) (x : List T) → k < length xs → x ≡ get_or xs k x → length (flattened (take k xs)) + length x ≤ length (flattened xs)
  part_length [] k x h e = let none : length {A = List T} [] ≡ 0 = refl in absurd (omega arith)
  part_length (y ∷ ys) zero x h e =
      let all = length_joined y (flattened ys) in
      let same : length x ≡ length y = ap length e in
      omega (arith, all, same)
  part_length (y ∷ ys) (suc k) x h e =
      let less = part_length ys k x (omega (arith, h)) e in
      let all = length_joined y (flattened ys) in
      let before = length_joined y (flattened (take k ys)) in
      omega (arith, less, all, before)

module _ {T : Type 0} where
  flattened_length : (xs ys : List (List T)) → length (flattened (xs ++ ys)) ≡ length (flattened xs) + length (flattened ys)
  flattened_length [] ys = omega arith
  flattened_length (x ∷ xs) ys =
      let more = flattened_length xs ys in
      let all = length_joined x (flattened (xs ++ ys)) in
      let some = length_joined x (flattened xs) in
      omega (arith, more, all, some)

  -- the same of pages
  pub page_length : (ps : List (List (List T))) (k : ℕ) (p : List (List T)) → k < length ps → p ≡ get_or ps k p → length (flattened (flattened (take k ps))) + length (flattened p) ≤ length (flattened (flattened ps))
  page_length [] k p h e = let none : length {A = List (List T)} [] ≡ 0 = refl in absurd (omega arith)
  page_length (q ∷ qs) zero p h e =
      let all = flattened_length q (flattened qs) in
      let same : length (flattened p) ≡ length (flattened q) = ap (λ cs. length (flattened cs)) e in
      omega (arith, all, same)
  page_length (q ∷ qs) (suc k) p h e =
      let less = page_length qs k p (omega (arith, h)) e in
      let all = flattened_length q (flattened qs) in
      let before = flattened_length q (flattened (take k qs)) in
      omega (arith, less, all, before)
