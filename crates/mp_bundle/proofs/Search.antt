-- Searching for a token among entries in strictly increasing order.
use Rattle.std.proofs.Common.{◌≡◌, ℕ, zero, suc, ◌<◌, ◌≤◌, pos, true, false, cond, List, [], ◌∷◌, length, get_or, refl, sym, ap, subst, ◌∙◌, arith, inl, inr}
use Rattle.std.specs.List.{AllByRecursion}
use Rattle.std.proofs.lemmas.Bool.Decides.{nat_tests}
use Rattle.std.specs.Prelude.{◌≢◌, nat_le, Some, None, Err}
use Rattle.std.specs.Option.{unwrap_or}
use Rattle.std.specs.Ordering.{is_lt, is_eq, ordering_index, ordering_reverse}
use Rattle.std.specs.Cmp.{alike_right, tied_back, first_so, second_so}
use Rattle.std.specs.FinMap.{find, is_sorted}
use Rattle.std.specs.FinMap.Entries.{below_all}
use Rattle.std.specs.List.Sorted.{IsNonDecreasingBy, IsBinarySearchResult}
use Rattle.std.specs.declared.cmp.Ordering.{Ordering}
use Rattle.std.specs.declared.cmp.Ordering.TheVariants.{Less, Equal, Greater}
use Rattle.std.proofs.lemmas.Bool.{cases_lt}
use Rattle.mp_bundle.specs.declared.token.Token.{Token}
use Rattle.mp_bundle.specs.Token.{token_cmp}
use Rattle.mp_bundle.specs.Bundle.{TokenEntry, IsEntry, IsBundle, quantity_of}
use Rattle.mp_bundle.proofs.Tokens.{token_total, token_exact}

pub less : (o : Ordering) → is_lt o ≡ true → o ≡ Less
less Less e = refl
less Equal e = Prim.cc
less Greater e = Prim.cc

below_at : (a : Token) (es : List TokenEntry) (j : ℕ) (d : TokenEntry) → below_all token_cmp a es ≡ true → j < length es → token_cmp a (get_or es j d).0 ≡ Less
below_at a [] j d below lt = absurd (omega arith)
below_at a (e ∷ es) zero d below lt = less _ (first_so _ _ below)
below_at a (e ∷ es) (suc j) d below lt = below_at a es j d (second_so _ _ below) (omega arith)

less_at : (es : List TokenEntry) (i j : ℕ) (d : TokenEntry) → is_sorted token_cmp es ≡ true → i < j → j < length es → token_cmp (get_or es i d).0 (get_or es j d).0 ≡ Less
less_at [] i j d rising lt within = absurd (omega arith)
less_at (e ∷ es) i zero d rising lt within = absurd (omega arith)
less_at (e ∷ es) zero (suc j) d rising lt within = below_at e.0 es j d (first_so _ _ rising) (omega arith)
less_at (e ∷ es) (suc i) (suc j) d rising lt within = less_at es i j d (second_so _ _ rising) (omega arith) (omega arith)

-- if a is less than b, it compares to q no higher than b does
no_higher : (a b q : Token) → token_cmp a b ≡ Less → (o : Ordering) → token_cmp b q ≡ o → ordering_index (token_cmp a q) ≤ ordering_index o
no_higher a b q h Less e = subst (λ r. ordering_index r ≤ 0) (sym (token_total.trans a b q h e)) (omega arith)
no_higher a b q h Equal e = subst (λ r. ordering_index r ≤ 1) (sym h ∙ alike_right token_total b q a e) (omega arith)
no_higher a b q h Greater e = at_most (token_cmp a q)
  where
    at_most : (r : Ordering) → ordering_index r ≤ 2
    at_most Less = omega arith
    at_most Equal = omega arith
    at_most Greater = omega arith

comparisons_rise : (es : List TokenEntry) (q : Token) → is_sorted token_cmp es ≡ true → IsNonDecreasingBy (λ e. ordering_index (token_cmp e.0 q)) es
comparisons_rise es q rising i j d le within = elim (cases_lt i j) [
  | inl lt ↦ no_higher _ _ q (less_at es i j d rising lt within) _ refl
  | inr ge ↦ subst (λ k. ordering_index (token_cmp (get_or es i d).0 q) ≤ ordering_index (token_cmp (get_or es k d).0 q)) {x = i} (omega arith) (omega arith)
]

-- the entry at an index is the one that is found
found_at : (es : List TokenEntry) (place : ℕ) (d : TokenEntry) (q : Token) → is_sorted token_cmp es ≡ true → place < length es → token_cmp (get_or es place d).0 q ≡ Equal → find token_cmp q es ≡ Some (get_or es place d).1
found_at [] place d q rising within same = absurd (omega arith)
found_at (e ∷ es) zero d q rising within same = ap (λ o. cond (is_eq o) (Some e.1) (find token_cmp q es)) (tied_back token_total e.0 q same)
found_at (e ∷ es) (suc place) d q rising within same =
    let before : token_cmp e.0 q ≡ Less = sym (alike_right token_total (get_or es place d).0 q e.0 same) ∙ below_at e.0 es place d (first_so _ _ rising) (omega arith) in
    ap (λ o. cond (is_eq o) (Some e.1) (find token_cmp q es)) (token_total.antisymm q e.0 ∙ ap ordering_reverse before)
    ∙ found_at es place d q (second_so _ _ rising) (omega arith) same

-- a token that compares equal to none isn't found
none_found : (es : List TokenEntry) (q : Token) → ((j : ℕ) (d : TokenEntry) → j < length es → is_eq (token_cmp q (get_or es j d).0) ≡ false) → find token_cmp q es ≡ None
none_found [] q apart = refl
none_found (e ∷ es) q apart =
    ap (λ b. cond b (Some e.1) (find token_cmp q es)) (apart 0 e (omega arith)) ∙ none_found es q (λ j d lt. apart (suc j) d (omega arith))

pub found_by_search : (es : List TokenEntry) (q : Token) (place : ℕ) (d : TokenEntry) → is_sorted token_cmp es ≡ true → place < length es → token_cmp (get_or es place d).0 q ≡ Equal → (get_or es place d).1 ≡ quantity_of es q
found_by_search es q place d rising within same = sym (ap (λ o. unwrap_or o (pos 0)) (found_at es place d q rising within same))

pub missed_by_search : (es : List TokenEntry) (q : Token) (gap : ℕ) → is_sorted token_cmp es ≡ true → IsBinarySearchResult (λ (e : TokenEntry). token_cmp e.0 q) es (Err gap) → pos 0 ≡ quantity_of es q
missed_by_search es q gap rising searched =
    let parted = searched (comparisons_rise es q rising) in
    let apart : (j : ℕ) (d : TokenEntry) → j < length es → is_eq (token_cmp q (get_or es j d).0) ≡ false = λ j d lt. elim (cases_lt j gap) [
      | inl low ↦ ap is_eq (token_total.antisymm q (get_or es j d).0 ∙ ap ordering_reverse (parted.0 j d (omega arith) low))
      | inr high ↦ ap is_eq (token_total.antisymm q (get_or es j d).0 ∙ ap ordering_reverse (parted.1 j d high lt))
    ] in
    sym (ap (λ o. unwrap_or o (pos 0)) (none_found es q apart))

pub equal : (o : Ordering) → is_eq o ≡ true → o ≡ Equal
equal Less e = Prim.cc
equal Equal e = refl
equal Greater e = Prim.cc

pub not_tied : (a b : Token) → (a ≢ b) → is_eq (token_cmp a b) ≡ false
not_tied a b apart = elim (is_eq (token_cmp a b)) as (λ v. is_eq (token_cmp a b) ≡ v → v ≡ false) [ true ↦ λ e. absurd (apart (token_exact a b (equal _ e))) | false ↦ λ e. refl ] refl

-- a token with a long name isn't in a bundle
pub long_absent : (es : List TokenEntry) (q : Token) → AllByRecursion IsEntry es → 32 < length q.name → find token_cmp q es ≡ None
long_absent [] q each long = refl
long_absent (e ∷ es) q each long =
    ap (λ b. cond b (Some e.1) (find token_cmp q es)) (not_tied q e.0 (λ same. let short = each.0.short in let names = ap (λ (t : Token). length t.name) same in omega arith)) ∙ long_absent es q each.1 long

pub long_name : (es : List TokenEntry) (q : Token) → IsBundle es → nat_le (length q.name) 32 ≡ false → quantity_of es q ≡ pos 0
long_name es q is long = ap (λ o. unwrap_or o (pos 0)) (long_absent es q is.each (grind (arith, nat_tests)))
