-- The laws.
use Rattle.std.proofs.Common.{◌≡◌, ℕ, suc, ◌+◌, ℤ, pos, negsuc, ◌+ℤ◌, Bool, true, false, cond, List, [], ◌∷◌, ◌++◌, length, length-append, refl, sym, ap, subst, ◌∙◌, arith, zero-add}
use Rattle.std.specs.Prelude.{Option, Some, None, MatchOption}
use Rattle.std.specs.Option.{unwrap_or}
use Rattle.std.specs.List.{AllByRecursion, sum_by}
use Rattle.std.specs.List.Sorted.{IsPermutation}
use Rattle.std.specs.Prelude.{◌≢◌, T}
use Rattle.std.specs.Cmp.{signed_Decides}
use Rattle.std.specs.Ordering.{eq_by_cmp, int_eq}
use Rattle.std.specs.FinMap.{find, get-empty, get-entries, entries, entries_sorted}
use Rattle.std.specs.FinMap.Entries.{same_entries}
use Rattle.std.proofs.lemmas.Int.{ints}
use Rattle.std.proofs.lemmas.List.Sorted.{sum_by-IsPermutation}
use Rattle.std.proofs.lemmas.List.Sums.{sum_by-cons}
use Rattle.mp_bundle.specs.declared.token.Token.{Token}
use Rattle.mp_bundle.specs.Token.{token_cmp}
use Rattle.mp_bundle.specs.Bundle.{TokenEntry, IsEntry, quantity_of}
use Rattle.mp_bundle.specs.Sum.{Sum, nothing, total_of, total_over, AddsAll, AreAlike, IsFirstDifference}
use Rattle.mp_bundle.specs.Laws.{FaultlessIsBundle, QuantitiesDetermine, TotalIsSum, OneMore, OrderIsFree, DifferencesAreFound}
use Rattle.mp_bundle.proofs.Tokens.{token_total, token_exact}
use Rattle.mp_bundle.proofs.Faults.{not_true, bundle_from_none, none_from_bundle}
use Rattle.mp_bundle.proofs.Differences.{difference}

pub faultless_is_bundle : FaultlessIsBundle
faultless_is_bundle es = (bundle_from_none es, none_from_bundle es)

as_test : (b : Bool) → b ≡ true → T b
as_test b e = subst T (sym e) tt

apart : (n : ℤ) → (n ≢ pos 0) → int_eq n (pos 0) ≡ false
apart n h = not_true _ (λ e. h ((signed_Decides n (pos 0)).0 e))

found_nonzero : (es : List TokenEntry) (q : Token) (n : ℤ) → AllByRecursion IsEntry es → find token_cmp q es ≡ Some n → n ≢ pos 0
found_nonzero [] q n each e = Prim.cc
found_nonzero (x ∷ es) q n each e =
    elim (eq_by_cmp token_cmp q x.0) as (λ b. cond b (Some x.1) (find token_cmp q es) ≡ Some n → n ≢ pos 0) [
      | true ↦ λ here z. each.0.nonzero (let h = here in let w : x.1 ≡ n = Prim.cc in w ∙ z)
      | false ↦ λ rest. found_nonzero es q n each.1 rest
    ] e

-- if a quantity isn't zero, its token is present
nonzero_found : (es : List TokenEntry) (q : Token) → AllByRecursion IsEntry es → (o : Option ℤ) → find token_cmp q es ≡ o → find token_cmp q es ≡ cond (int_eq (unwrap_or o (pos 0)) (pos 0)) None (Some (unwrap_or o (pos 0)))
nonzero_found es q each None e = e
nonzero_found es q each (Some n) e = e ∙ ap (λ b. cond b None (Some n)) (sym (apart n (found_nonzero es q n each e)))

same_finds : (a b : List TokenEntry) → AllByRecursion IsEntry a → AllByRecursion IsEntry b → ((q : Token) → quantity_of a q ≡ quantity_of b q) → (q : Token) → find token_cmp q a ≡ find token_cmp q b
same_finds a b each_a each_b same q =
    nonzero_found a q each_a (find token_cmp q a) refl ∙ ap (λ n. cond (int_eq n (pos 0)) None (Some n)) (same q) ∙ sym (nonzero_found b q each_b (find token_cmp q b) refl)

pub quantities_determine : QuantitiesDetermine
quantities_determine a b is_a is_b same = same_entries token_cmp token_total token_exact a b (as_test _ is_a.rising) (as_test _ is_b.rising) (same_finds a b is_a.each is_b.each same)

nothing_more : (n : ℤ) → n ≡ n +ℤ pos 0
nothing_more n = omega (arith, ints)

from_nothing : (total none over : ℤ) → total ≡ none +ℤ over → none ≡ pos 0 → total ≡ over
from_nothing total none over e z = omega (arith, ints)

both_sums : (a b : ℤ) (m n k l below above : ℕ) → a +ℤ pos m ≡ pos n → b +ℤ pos k ≡ pos l → below ≡ m + k → above ≡ n + l → (a +ℤ b) +ℤ pos below ≡ pos above
both_sums a b m n k l below above e f g h = omega (arith, ints)

same_rest : (a b : ℤ) (m n k l : ℕ) → a +ℤ pos m ≡ pos n → b +ℤ pos k ≡ pos l → k ≡ m → l ≡ n → a ≡ b
same_rest a b m n k l e f g h = omega (arith, ints)

swapped : (a : ℤ) → a +ℤ pos 0 ≡ pos 0 +ℤ a
swapped a = omega (arith, ints)

moved : (a b c d : ℤ) → d ≡ b +ℤ c → a +ℤ d ≡ (a +ℤ b) +ℤ c
moved a b c d e = omega (arith, ints)

regroup : (new next old quantity over : ℤ) → new ≡ next +ℤ over → next ≡ old +ℤ quantity → new ≡ old +ℤ (quantity +ℤ over)
regroup new next old quantity over e f = omega (arith, ints)

-- the total of a sum after bundles is the total before and their quantities
total_after : (old : Sum) (bundles : List (List TokenEntry)) (new : Sum) → AddsAll old bundles new → (q : Token) → total_of new q ≡ total_of old q +ℤ total_over bundles q
total_after old [] new is q = ap (λ s. total_of s q) is ∙ nothing_more (total_of old q)
total_after old (bundle ∷ bundles) new (next, adds, rest) q = regroup _ _ _ _ _ (total_after next bundles new rest q) (adds.totals q)

added_after : (old : Sum) (bundles : List (List TokenEntry)) (new : Sum) → AddsAll old bundles new → new.added ≡ old.added + length bundles
added_after old [] new is = ap (λ s. s.added) is ∙ omega arith
added_after old (bundle ∷ bundles) new (next, adds, rest) = let last = added_after next bundles new rest in let first = adds.added in omega arith

no_total : (q : Token) → total_of nothing q ≡ pos 0
no_total q = ap (λ o. unwrap_or o (pos 0)) (get-empty token_cmp q)

pub total_is_sum : TotalIsSum
total_is_sum bundles sum all = record {
  added = added_after nothing bundles sum all ∙ zero-add (length bundles);
  totals = λ q. from_nothing _ _ _ (total_after nothing bundles sum all q) (no_total q);
}

over-push : (bundles : List (List TokenEntry)) (bundle : List TokenEntry) (q : Token) → total_over (bundles ++ bundle ∷ []) q ≡ total_over bundles q +ℤ quantity_of bundle q
over-push [] bundle q = swapped (quantity_of bundle q)
over-push (first ∷ bundles) bundle q = moved (quantity_of first q) (total_over bundles q) (quantity_of bundle q) _ (over-push bundles bundle q)

pub one_more : OneMore
one_more bundles bundle old new is adds = record {
  added = adds.added ∙ ap (λ n. n + 1) is.added ∙ sym (length-append bundles (bundle ∷ []));
  totals = λ q. adds.totals q ∙ ap (λ n. n +ℤ quantity_of bundle q) (is.totals q) ∙ sym (over-push bundles bundle q);
}

-- how far a number is above zero, or below
abbrev above : ℤ → ℕ
above (pos n) = n
above (negsuc n) = 0

abbrev below : ℤ → ℕ
below (pos n) = 0
below (negsuc n) = suc n

above-below : (n : ℤ) → n +ℤ pos (below n) ≡ pos (above n)
above-below (pos n) = omega (arith, ints)
above-below (negsuc n) = omega (arith, ints)

over-above : (bundles : List (List TokenEntry)) (q : Token) → total_over bundles q +ℤ pos (sum_by (λ b. below (quantity_of b q)) bundles) ≡ pos (sum_by (λ b. above (quantity_of b q)) bundles)
over-above [] q = omega (arith, ints)
over-above (bundle ∷ bundles) q =
    both_sums (quantity_of bundle q) (total_over bundles q) (below (quantity_of bundle q)) (above (quantity_of bundle q)) _ _ _ _ (above-below (quantity_of bundle q)) (over-above bundles q)
    (sum_by-cons (λ b. below (quantity_of b q)) bundle bundles) (sum_by-cons (λ b. above (quantity_of b q)) bundle bundles)

over-permuted : (bundles others : List (List TokenEntry)) (q : Token) → IsPermutation bundles others → total_over bundles q ≡ total_over others q
over-permuted bundles others q h =
    same_rest _ _ _ _ _ _ (over-above bundles q) (over-above others q) (sum_by-IsPermutation (λ b. below (quantity_of b q)) bundles others h) (sum_by-IsPermutation (λ b. above (quantity_of b q)) bundles others h)

pub order_is_free : OrderIsFree
order_is_free bundles others a b h all_a all_b q =
    (total_is_sum bundles a all_a).totals q ∙ over-permuted bundles others q h ∙ sym ((total_is_sum others b all_b).totals q)

kept_totals : (a : Sum) (q : Token) → total_of a q ≡ quantity_of (entries a.nonzero) q
kept_totals a q = ap (λ o. unwrap_or o (pos 0)) (get-entries a.nonzero q)

as_true : (b : Bool) → T b → b ≡ true
as_true true t = refl
as_true false t = absurd t

none_differs : (a b : Sum) (found : Option Token) → MatchOption found (AreAlike a b) (IsFirstDifference a b) → ((q : Token) → ¬ IsFirstDifference a b q) → AreAlike a b
none_differs a b None all none = all
none_differs a b (Some k) first none = absurd (none k first)

pub differences_are_found : DifferencesAreFound
differences_are_found a b =
    (none_differs a b _ (difference a b (entries a.nonzero) (entries b.nonzero) (kept_totals a) (kept_totals b) (as_true _ (entries_sorted a.nonzero)) (as_true _ (entries_sorted b.nonzero))), λ alike q first. first.differs (alike q))
