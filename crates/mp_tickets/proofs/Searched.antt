-- The result of a binary search in strictly increasing tickets.
use Rattle.std.proofs.Common.{◌≡◌, ℕ, zero, suc, ◌+◌, ◌<◌, ◌≤◌, List, length, Result, Ok, Err, slice_index_or, inl, inr, sym, subst, arith}
use Rattle.std.specs.Prelude.{◌==◌, is_ok}
use Rattle.std.specs.Ordering.{nat_cmp}
use Rattle.std.specs.List.Sorted.{IsStrictlyIncreasing, IsBinarySearchResult}
use Rattle.std.proofs.lemmas.Bool.{eq-eqb, ne_eqb, cases_lt}
use Rattle.std.proofs.lemmas.Grind.{get_or_default_zero}
use Rattle.std.proofs.lemmas.List.Folds.{list_any_at, list_any_none}
use Rattle.std.proofs.lemmas.List.Sorted.{searched}
use Rattle.mp_tickets.specs.Tickets.{has_ticket}

none_falls : (xs : List ℕ) → IsStrictlyIncreasing xs → (i j : ℕ) → i ≤ j → j < length xs → slice_index_or xs i 0 ≤ slice_index_or xs j 0
none_falls xs up i zero h k = let e : i ≡ 0 = omega arith in subst (λ n. slice_index_or xs n 0 ≤ slice_index_or xs 0 0) (sym e) (omega arith)
none_falls xs up i (suc j) h k = let next : suc j ≡ j + 1 = omega arith in elim (cases_lt j i) [
  | inl now ↦ let e : i ≡ suc j = omega arith in subst (λ n. slice_index_or xs n 0 ≤ slice_index_or xs (suc j) 0) (sym e) (omega arith)
  | inr before ↦
      let m = none_falls xs up i j before (omega arith) in let n : slice_index_or xs j 0 < slice_index_or xs (j + 1) 0 = up j (omega arith) in
      subst (λ n. slice_index_or xs i 0 ≤ slice_index_or xs n 0) (sym next) (omega arith)
]

differs : (xs : List ℕ) (t i : ℕ) → ((k : ℕ) → k < i → slice_index_or xs k 0 < t) → ((k : ℕ) → i ≤ k → k < length xs → t < slice_index_or xs k 0) → (k d : ℕ) → k < length xs → slice_index_or xs k d ≡ t → ⊥
differs xs t i low high k d h e = let same = get_or_default_zero xs k d h in elim (cases_lt k i) [
  | inl before ↦ let n = low k before in omega arith
  | inr on ↦ let n = high k on h in omega arith
]

pub found_where : (xs : List ℕ) (t : ℕ) (r : Result ℕ ℕ) → IsStrictlyIncreasing xs → IsBinarySearchResult (λ y. nat_cmp y t) xs r → is_ok r ≡ has_ticket xs t
found_where xs t (Ok i) up told =
    let at = searched xs t (Ok i) told (none_falls xs up) in
    sym (list_any_at (λ x. x == t) xs i 0 at.0 (eq-eqb (slice_index_or xs i 0) t at.1))
found_where xs t (Err i) up told =
    let at = searched xs t (Err i) told (none_falls xs up) in
    sym (list_any_none (λ x. x == t) xs (λ k d h. ne_eqb (slice_index_or xs k d) t (differs xs t i at.1 at.2 k d h)))
