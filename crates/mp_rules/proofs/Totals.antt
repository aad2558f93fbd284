-- The sums and the first token that isn't balanced.
use Rattle.std.proofs.Common.{◌≡◌, ◌≢◌, pos, ◌+ℤ◌, Bool, true, false, cond, not, ◌||◌, List, [], ◌∷◌, ◌++◌, map, refl, sym, ap, subst, ◌∙◌, append_assoc}
use Rattle.std.specs.Prelude.{Option, Some, None, IfSome, filter}
use Rattle.std.specs.Option.{unwrap_or}
use Rattle.std.specs.Ordering.{is_lt, is_eq, eq_by_cmp, int_eq, ordering_reverse}
use Rattle.std.specs.Cmp.{signed_Decides, alike_right, tied_back, tied_itself}
use Rattle.std.specs.FinMap.{find}
use Rattle.std.specs.List.{list_any, AllByRecursion}
use Rattle.std.specs.declared.cmp.Ordering.{Ordering}
use Rattle.std.specs.declared.cmp.Ordering.TheVariants.{Less, Equal, Greater}
use Rattle.mp_bundle.specs.declared.token.Token.{Token}
use Rattle.mp_bundle.specs.Token.{token_cmp}
use Rattle.mp_bundle.specs.Bundle.{TokenEntry, quantity_of}
use Rattle.mp_bundle.specs.Sum.{Sum, total_over, AreAlike, IsSumOf, IsFirstDifference}
use Rattle.mp_bundle.proofs.Tokens.{token_total, token_exact}
use Rattle.mp_bundle.proofs.Search.{equal}
use Rattle.mp_bundle.proofs.Faults.{not_true}
use Rattle.mp_rules.specs.FirstFault.{lesser, least, tokens, first_unbalanced}
use Rattle.mp_rules.specs.Laws.{IsLeastUnbalanced}
use Rattle.mp_rules.proofs.Searching.{so}

-- ---- a token that occurs nowhere has no total

either : (a b : Bool) → (a || b) ≡ false → (a ≡ false) × (b ≡ false)
either false b e = (refl, e)
either true b e = Prim.cc

-- whether a token is among others
abbrev is_among : List Token → Token → Bool
is_among ts q = list_any (λ t. eq_by_cmp token_cmp q t) ts

among-append : (xs ys : List Token) (q : Token) → is_among (xs ++ ys) q ≡ false → (is_among xs q ≡ false) × (is_among ys q ≡ false)
among-append [] ys q e = (refl, e)
among-append (x ∷ xs) ys q e =
    let h = either (eq_by_cmp token_cmp q x) _ e in
    let rest = among-append xs ys q h.1 in
    (ap (λ b. b || is_among xs q) h.0 ∙ rest.0, rest.1)

absent : (es : List TokenEntry) (q : Token) → is_among (map (λ e. e.0) es) q ≡ false → quantity_of es q ≡ pos 0
absent es q h = ap (λ o. unwrap_or o (pos 0)) (none es h)
  where
    none : (es : List TokenEntry) → is_among (map (λ e. e.0) es) q ≡ false → find token_cmp q es ≡ None
    none [] h = refl
    none (e ∷ es) h =
        let both = either (eq_by_cmp token_cmp q e.0) _ h in
        ap (λ b. cond b (Some e.1) (find token_cmp q es)) both.0 ∙ none es both.1

no_total : (bundles : List (List TokenEntry)) (q : Token) → is_among (tokens bundles) q ≡ false → total_over bundles q ≡ pos 0
no_total [] q h = refl
no_total (es ∷ bundles) q h =
    let both = among-append (map (λ e. e.0) es) (tokens bundles) q h in
    ap (λ n. n +ℤ total_over bundles q) (absent es q both.0) ∙ ap (λ n. pos 0 +ℤ n) (no_total bundles q both.1)

tokens-append : (xs ys : List (List TokenEntry)) → tokens (xs ++ ys) ≡ tokens xs ++ tokens ys
tokens-append [] ys = refl
tokens-append (x ∷ xs) ys =
    ap (λ ts. map (λ e. e.0) x ++ ts) (tokens-append xs ys) ∙ sym (append_assoc (map (λ e. e.0) x) (tokens xs) (tokens ys))

-- a token whose totals differ occurs in a bundle
differs_among : (taken paid : List (List TokenEntry)) (q : Token) → (total_over taken q ≢ total_over paid q) → (b : Bool) → is_among (tokens (taken ++ paid)) q ≡ b → b ≡ true
differs_among taken paid q differs true e = refl
differs_among taken paid q differs false e =
    let both = among-append (tokens taken) (tokens paid) q (sym (ap (λ ts. is_among ts q) (tokens-append taken paid)) ∙ e) in
    absurd (differs (no_total taken q both.0 ∙ sym (no_total paid q both.1)))

-- what holds of all holds of one among them
at_member : (q : Token) (ts : List Token) (P : Token → Type 0) → AllByRecursion P ts → is_among ts q ≡ true → P q
at_member q [] P all e = absurd (let f = e in Prim.cc)
at_member q (t ∷ ts) P all e = elim (eq_by_cmp token_cmp q t) as (λ v. eq_by_cmp token_cmp q t ≡ v → (v || is_among ts q) ≡ true → P q) [
  | true ↦ λ h e. subst P (sym (token_exact q t (equal _ h))) all.0
  | false ↦ λ h e. at_member q ts P all.1 e
] refl e

-- ---- the least token that passes a test

not_itself : (t : Token) → token_cmp t t ≡ Less → ⊥
not_itself t lt = let e = tied_itself token_total t in Prim.cc

not_both : (a b : Token) → token_cmp a b ≡ Less → token_cmp b a ≡ Less → ⊥
not_both a b lt gt = not_itself a (token_total.trans a b a lt gt)

module _ (p : Token → Bool) where
  none_least : ((t : Token) → p t ≡ false) → (ts : List Token) → least (filter p ts) ≡ None
  none_least fails [] = refl
  none_least fails (t ∷ ts) = ap (λ b. least (cond b (t ∷ filter p ts) (filter p ts))) (fails t) ∙ none_least fails ts

  lesser_passes : (t : Token) (o : Option Token) → p t ≡ true → IfSome o (λ b. p b ≡ true) → p (lesser t o) ≡ true
  lesser_passes t None h k = h
  lesser_passes t (Some b) h k = elim (is_lt (token_cmp b t)) as (λ v. p (cond v b t) ≡ true) [ true ↦ k | false ↦ h ]

  passes : (ts : List Token) → IfSome (least (filter p ts)) (λ b. p b ≡ true)
  passes [] = tt
  passes (t ∷ ts) = elim (p t) as (λ v. p t ≡ v → IfSome (least (cond v (t ∷ filter p ts) (filter p ts))) (λ b. p b ≡ true)) [
    | true ↦ λ h. lesser_passes t (least (filter p ts)) h (passes ts)
    | false ↦ λ h. passes ts
  ] refl

  -- if no token is the least, none passes
  none_passes : (ts : List Token) → least (filter p ts) ≡ None → AllByRecursion (λ t. p t ≡ false) ts
  none_passes [] e = tt
  none_passes (t ∷ ts) e = elim (p t) as (λ v. p t ≡ v → least (cond v (t ∷ filter p ts) (filter p ts)) ≡ None → (p t ≡ false) × AllByRecursion (λ t. p t ≡ false) ts) [
    | true ↦ λ h e. absurd (let f = e in Prim.cc)
    | false ↦ λ h e. (h, none_passes ts e)
  ] refl e

  -- no lesser token passes
  abbrev AreBefore : Token → List Token → Type 0
  AreBefore d ts = AllByRecursion (λ t. token_cmp t d ≡ Less → p t ≡ false) ts

  any_before : (d : Token) (ts : List Token) → AllByRecursion (λ t. p t ≡ false) ts → AreBefore d ts
  any_before d [] all = tt
  any_before d (t ∷ ts) all = (λ lt. all.0, any_before d ts all.1)

  lower_before : (c d : Token) → ((t : Token) → token_cmp t d ≡ Less → token_cmp t c ≡ Less) → (ts : List Token) → AreBefore c ts → AreBefore d ts
  lower_before c d lower [] all = tt
  lower_before c d lower (t ∷ ts) all = (λ lt. all.0 (lower t lt), lower_before c d lower ts all.1)

  -- the lesser of a token and the least of those after it
  lesser_first : (t : Token) (ts : List Token) (c : Token) → AreBefore c ts → (o : Ordering) → token_cmp c t ≡ o → AreBefore (cond (is_lt o) c t) (t ∷ ts)
  lesser_first t ts c before Less e = (λ lt. absurd (not_both t c lt e), before)
  lesser_first t ts c before Equal e = (λ lt. absurd (not_itself t lt), lower_before c t (λ q lt. sym (alike_right token_total t c q (tied_back token_total c t e)) ∙ lt) ts before)
  lesser_first t ts c before Greater e =
      (λ lt. absurd (not_itself t lt), lower_before c t (λ q lt. token_total.trans q t c lt (token_total.antisymm t c ∙ ap ordering_reverse e)) ts before)

  first_passing : (ts : List Token) (d : Token) → least (filter p ts) ≡ Some d → AreBefore d ts
  first_passing [] d e = tt
  first_passing (t ∷ ts) d e = elim (p t) as (λ v. p t ≡ v → least (cond v (t ∷ filter p ts) (filter p ts)) ≡ Some d → AreBefore d (t ∷ ts)) [
    | true ↦ λ h e. elim (least (filter p ts)) as (λ o. least (filter p ts) ≡ o → Some (lesser t o) ≡ Some d → AreBefore d (t ∷ ts)) [
      | None ↦ λ none f.
          let same : t ≡ d = Prim.cc in
          (λ lt. absurd (not_itself d (subst (λ x. token_cmp x d ≡ Less) same lt)), any_before d ts (none_passes ts none))
      | Some c ↦ λ some f.
          let same : lesser t (Some c) ≡ d = Prim.cc in
          subst (λ x. AreBefore x (t ∷ ts)) same (lesser_first t ts c (first_passing ts c some) (token_cmp c t) refl)
    ] refl e
    | false ↦ λ h e. (λ lt. h, first_passing ts d e)
  ] refl e

  module _ (d : Token) (here : p d ≡ true) (before : (t : Token) → token_cmp t d ≡ Less → p t ≡ false) where
    not_before : (b : Token) → p b ≡ true → is_lt (token_cmp b d) ≡ false
    not_before b h = by (token_cmp b d) refl
      where
        by : (o : Ordering) → token_cmp b d ≡ o → is_lt o ≡ false
        by Less e = let f = before b e in Prim.cc
        by Equal e = refl
        by Greater e = refl

    stays : (o : Option Token) → IfSome o (λ b. p b ≡ true) → lesser d o ≡ d
    stays None h = refl
    stays (Some b) h = ap (λ v. cond v b d) (not_before b h)

    step : (t : Token) (ts : List Token) → (is_among ts d ≡ true → least (filter p ts) ≡ Some d) → (o : Ordering) → token_cmp t d ≡ o → is_among (t ∷ ts) d ≡ true → least (filter p (t ∷ ts)) ≡ Some d
    step t ts rest Less e among =
        ap (λ v. least (cond v (t ∷ filter p ts) (filter p ts))) (before t e)
        ∙ rest (sym (ap (λ o. is_eq o || is_among ts d) (token_total.antisymm d t ∙ ap ordering_reverse e)) ∙ among)
    step t ts rest Equal e among =
        let same : t ≡ d = token_exact t d e in
        ap (λ v. least (cond v (t ∷ filter p ts) (filter p ts))) (ap p same ∙ here)
        ∙ ap (λ x. Some (lesser x (least (filter p ts)))) same
        ∙ ap Some (stays (least (filter p ts)) (passes ts))
    step t ts rest Greater e among =
        let back : token_cmp d t ≡ Less = token_total.antisymm d t ∙ ap ordering_reverse e in
        let later : least (filter p ts) ≡ Some d = rest (sym (ap (λ o. is_eq o || is_among ts d) back) ∙ among) in
        elim (p t) as (λ v. least (cond v (t ∷ filter p ts) (filter p ts)) ≡ Some d) [
          | true ↦ ap (λ o. Some (lesser t o)) later ∙ ap (λ o. Some (cond (is_lt o) d t)) back
          | false ↦ later
        ]

    least_is : (ts : List Token) → is_among ts d ≡ true → least (filter p ts) ≡ Some d
    least_is [] among = Prim.cc
    least_is (t ∷ ts) among = step t ts (least_is ts) (token_cmp t d) refl among

-- ---- sums

-- whether the totals of a token differ
abbrev unlike : List (List TokenEntry) → List (List TokenEntry) → Token → Bool
unlike taken paid q = not (int_eq (total_over taken q) (total_over paid q))

same_unlike : (taken paid : List (List TokenEntry)) (q : Token) → total_over taken q ≡ total_over paid q → unlike taken paid q ≡ false
same_unlike taken paid q e = ap not ((signed_Decides (total_over taken q) (total_over paid q)).1 e)

differs_unlike : (taken paid : List (List TokenEntry)) (q : Token) → (total_over taken q ≢ total_over paid q) → unlike taken paid q ≡ true
differs_unlike taken paid q h = ap not (not_true _ (λ e. h ((signed_Decides (total_over taken q) (total_over paid q)).0 e)))

-- all totals are equal
pub balanced : (taken paid : List (List TokenEntry)) → ((q : Token) → total_over taken q ≡ total_over paid q) → first_unbalanced taken paid ≡ None
balanced taken paid same = none_least (unlike taken paid) (λ q. same_unlike taken paid q (same q)) (tokens (taken ++ paid))

-- the token is the least whose totals differ
pub least_unbalanced : (taken paid : List (List TokenEntry)) (d : Token) → (total_over taken d ≢ total_over paid d) → ((q : Token) → token_cmp q d ≡ Less → total_over taken q ≡ total_over paid q) → first_unbalanced taken paid ≡ Some d
least_unbalanced taken paid d differs before =
    least_is (unlike taken paid) d (differs_unlike taken paid d differs) (λ q lt. same_unlike taken paid q (before q lt)) (tokens (taken ++ paid))
    (differs_among taken paid d differs (is_among (tokens (taken ++ paid)) d) refl)

same_totals : (taken paid : List (List TokenEntry)) (q : Token) → unlike taken paid q ≡ false → total_over taken q ≡ total_over paid q
same_totals taken paid q h = (signed_Decides (total_over taken q) (total_over paid q)).0 (so _ h)

-- a token whose totals differ occurs in a bundle, so what holds of those holds of it
everywhere : (taken paid : List (List TokenEntry)) (P : Token → Type 0) (q : Token) → AllByRecursion P (tokens (taken ++ paid)) → (P q → unlike taken paid q ≡ false) → total_over taken q ≡ total_over paid q
everywhere taken paid P q all then =
    elim (unlike taken paid q) as (λ v. unlike taken paid q ≡ v → total_over taken q ≡ total_over paid q) [
      | true ↦ λ h.
          let differs : total_over taken q ≢ total_over paid q = λ e. let f = same_unlike taken paid q e in Prim.cc in
          same_totals taken paid q (then (at_member q (tokens (taken ++ paid)) P all (differs_among taken paid q differs (is_among (tokens (taken ++ paid)) q) refl)))
      | false ↦ λ h. same_totals taken paid q h
    ] refl

-- if none is named, all totals are equal
pub none_unbalanced : (taken paid : List (List TokenEntry)) → first_unbalanced taken paid ≡ None → (q : Token) → total_over taken q ≡ total_over paid q
none_unbalanced taken paid e q =
    everywhere taken paid (λ t. unlike taken paid t ≡ false) q (none_passes (unlike taken paid) (tokens (taken ++ paid)) e) (λ h. h)

-- the one that is named is the least whose totals differ
pub is_unbalanced : (taken paid : List (List TokenEntry)) (d : Token) → first_unbalanced taken paid ≡ Some d → IsLeastUnbalanced taken paid d
is_unbalanced taken paid d e = record {
  differs = λ same.
      let fails = same_unlike taken paid d same in
      let passed : unlike taken paid d ≡ true = subst (λ o. IfSome o (λ b. unlike taken paid b ≡ true)) e (passes (unlike taken paid) (tokens (taken ++ paid))) in
      Prim.cc;
  least = λ q lt. everywhere taken paid (λ t. token_cmp t d ≡ Less → unlike taken paid t ≡ false) q (first_passing (unlike taken paid) (tokens (taken ++ paid)) d e) (λ h. h lt);
}

pub alike : (taken paid : List (List TokenEntry)) (a b : Sum) → IsSumOf taken a → IsSumOf paid b → AreAlike a b → first_unbalanced taken paid ≡ None
alike taken paid a b is_a is_b same = balanced taken paid (λ q. sym (is_a.totals q) ∙ same q ∙ is_b.totals q)

pub differ : (taken paid : List (List TokenEntry)) (a b : Sum) (d : Token) → IsSumOf taken a → IsSumOf paid b → IsFirstDifference a b d → first_unbalanced taken paid ≡ Some d
differ taken paid a b d is_a is_b first =
    least_unbalanced taken paid d (λ same. first.differs (is_a.totals d ∙ same ∙ sym (is_b.totals d)))
    (λ q lt. sym (is_a.totals q) ∙ first.least q lt ∙ is_b.totals q)
