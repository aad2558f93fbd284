-- Passes in the order of their callers.
use Rattle.std.proofs.Common.{◌≡◌, ◌≢◌, ℕ, zero, suc, ◌+◌, ◌<◌, ◌≤◌, List, [], ◌∷◌, ◌++◌, length, take, get_or, refl, sym, ap, ap₂, subst, ◌∙◌, arith, add-one}
use mathlib.Core.Logic.{inl, inr}
use Rattle.std.specs.Prelude.{◌⊎◌, Option, None, Some, option_map, slice_get}
use Rattle.std.specs.List.{range_with_len}
use Rattle.std.proofs.lemmas.List.{take_more, length-map}
use Rattle.std.proofs.lemmas.List.FromFn.{length-range_with_len, get_or-range_with_len}
use Rattle.std.proofs.lemmas.Option.{slice_get-get_or, slice_get-map, slice_get_past, slice_get_cases, get_or_from_slice_get, none-some}
use Rattle.std.proofs.Math.Seq.{take-length}
use Rattle.mp_mempool.specs.Pass.{Pass}
use Rattle.mp_mempool.specs.Successor.{numbers, AreAll, AreBadAt}

take-range : (a n k : ℕ) → k ≤ n → take k (range_with_len a n) ≡ range_with_len a k
take-range a n zero le = refl
take-range a zero (suc k) le = absurd (omega arith)
take-range a (suc n) (suc k) le = ap (λ l. a ∷ l) (take-range (a + 1) n k (omega arith))

range-push : (a k j : ℕ) → a + k ≡ j → range_with_len a (suc k) ≡ range_with_len a k ++ j ∷ []
range-push a zero j is = ap (λ n. n ∷ []) (omega arith)
range-push a (suc k) j is = ap (λ l. a ∷ l) (range-push (a + 1) k j (omega arith))

itself : (n : ℕ) → n ≤ n
itself n = omega arith

-- one more number, at its place
more : (ns : List ℕ) (k n : ℕ) → k < length ns → get_or ns k n ≡ n → n ≡ k → take k ns ≡ range_with_len 0 k → take (k + 1) ns ≡ range_with_len 0 (k + 1)
more ns k n lt at is so_far =
    take_more ns k n lt ∙ ap₂ (λ l m. l ++ m ∷ []) so_far (at ∙ is) ∙ sym (ap (range_with_len 0) (add-one k) ∙ range-push 0 k k (omega arith))

found : (callers k n : ℕ) (o : Option ℕ) → ((x : ℕ) × (k < length (range_with_len 0 callers)) × (o ≡ Some x) × (get_or (range_with_len 0 callers) k x ≡ x)) ⊎ ((length (range_with_len 0 callers) ≤ k) × (o ≡ None)) → Some n ≡ o → n ≡ k
found callers k n o (inl h) same =
    let here : n ≡ h.0 = cc (same, h.2) in
    let within : k < callers = subst (λ m. k < m) (length-range_with_len 0 callers) h.1 in
    here ∙ sym h.3 ∙ get_or-range_with_len 0 callers k h.0 within ∙ first k
  where
    first : (m : ℕ) → 0 + m ≡ m
    first m = omega arith
found callers k n o (inr h) same = absurd (none-some n (sym (same ∙ h.1)))

-- a number that isn't at its place
wrong : (callers : ℕ) (ns : List ℕ) (k n : ℕ) → slice_get ns k ≡ Some n → n ≢ k → slice_get ns k ≢ slice_get (range_with_len 0 callers) k
wrong callers ns k n here other same =
    other (found callers k n (slice_get (range_with_len 0 callers) k) (slice_get_cases (range_with_len 0 callers) k).1 (sym here ∙ same))

module _ (callers : ℕ) (ps : List Pass) where
  -- the passes so far are those of the first callers
  pub record AreFirst (k : ℕ) : Type 0 where
    pub same : take k (numbers ps) ≡ range_with_len 0 k
    pub within : k ≤ callers

  pub none_yet : AreFirst 0
  none_yet = record { same = refl; within = omega arith }

  pub one_more : (k : ℕ) (p : Pass) → AreFirst k → k < length ps → p ≡ get_or ps k p → p.caller ≡ k → k < callers → AreFirst (k + 1)
  one_more k p so_far lt at is known =
      let there : slice_get ps k ≡ Some p = slice_get-get_or ps k p lt ∙ ap (λ q. Some q) (sym at) in
      record {
        same = more (numbers ps) k p.caller (subst (λ n. k < n) (sym (length-map ps (λ q. q.caller))) lt) (get_or_from_slice_get (numbers ps) k p.caller p.caller (slice_get-map (λ q. q.caller) ps k ∙ ap (option_map (λ q. q.caller)) there)) is so_far.same;
        within = omega (arith, known);
      }

  pub bad_at : (k : ℕ) (p : Pass) → AreFirst k → k < length ps → p ≡ get_or ps k p → p.caller ≢ k → AreBadAt callers ps k
  bad_at k p so_far lt at other =
      let there : slice_get ps k ≡ Some p = slice_get-get_or ps k p lt ∙ ap (λ q. Some q) (sym at) in
      record {
        before = so_far.same ∙ sym (take-range 0 callers k so_far.within);
        differs = wrong callers (numbers ps) k p.caller (slice_get-map (λ q. q.caller) ps k ∙ ap (option_map (λ q. q.caller)) there) other;
      }

  pub too_few : AreFirst (length ps) → length ps < callers → AreBadAt callers ps (length ps)
  too_few all lt =
      let k = length ps in
      let end : slice_get (numbers ps) k ≡ None = slice_get_past (numbers ps) k (subst (λ n. n ≤ k) (sym (length-map ps (λ q. q.caller))) (itself k)) in
      let here : slice_get (range_with_len 0 callers) k ≡ Some (get_or (range_with_len 0 callers) k 0) = slice_get-get_or (range_with_len 0 callers) k 0 (subst (λ n. k < n) (sym (length-range_with_len 0 callers)) lt) in
      record {
        before = all.same ∙ sym (take-range 0 callers k all.within);
        differs = λ same. none-some (get_or (range_with_len 0 callers) k 0) (sym end ∙ same ∙ here);
      }

  pub all_there : AreFirst (length ps) → (length ps < callers → ⊥) → AreAll callers ps
  all_there all not =
      let le = all.within in
      let is : length ps ≡ callers = omega (arith, le, not) in
      sym (take-length (numbers ps)) ∙ ap (λ n. take n (numbers ps)) (length-map ps (λ q. q.caller)) ∙ all.same ∙ ap (range_with_len 0) is

  -- after all passes
  pub all_at : (k : ℕ) → AreFirst k → length ps ≤ k → k ≤ length ps → AreFirst (length ps)
  all_at k so_far ge le = subst AreFirst (let g = ge in let l = le in omega (arith, g, l)) so_far
