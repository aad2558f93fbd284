-- The least policy whose script isn't carried.
use Rattle.std.proofs.Common.{◌≡◌, ℕ, zero, suc, ◌<◌, Bool, true, false, cond, not, ◌||◌, List, [], ◌∷◌, map, length, get_or, refl, ap, subst, ◌∙◌, arith}
use Rattle.std.specs.Prelude.{Some, Contains, Decides}
use Rattle.std.specs.List.{find, AllByRecursion}
use Rattle.std.specs.Ordering.{nat_cmp, ordering_then, ordering_reverse}
use Rattle.std.specs.Cmp.{tied_itself, first_so, second_so}
use Rattle.std.specs.Cmp.Lexicographic.{slice_cmp, bytes_decides, nat_list_cmp_total}
use Rattle.std.specs.FinMap.{is_sorted}
use Rattle.std.specs.FinMap.Entries.{below_all}
use Rattle.std.specs.declared.cmp.Ordering.TheVariants.{Less}
use Rattle.std.proofs.lemmas.List.{get_or-map, length-map}
use Rattle.std.proofs.lemmas.List.Elements.{All-from_recursion}
use Rattle.sha2.specs.Sha256.{sha256}
use Rattle.mp_bundle.specs.declared.token.Token.{Token}
use Rattle.mp_bundle.specs.Token.{token_cmp}
use Rattle.mp_bundle.specs.Bundle.{TokenEntry, IsBundle}
use Rattle.mp_bundle.proofs.Search.{less}
use Rattle.mp_rules.specs.FirstFault.{same_bytes, is_carried}
use Rattle.mp_rules.specs.Laws.{IsLeastUncarried}
use Rattle.mp_rules.proofs.Searching.{Refutes, refutes, first_found}

-- ---- whether a script with a hash is carried

is_there : (scripts : List (List ℕ)) (policy : List ℕ) → is_carried scripts policy ≡ true → Contains (map sha256 scripts) policy
is_there [] policy e = absurd (let f = e in Prim.cc)
is_there (s ∷ scripts) policy e = elim (same_bytes (sha256 s) policy) as (λ v. same_bytes (sha256 s) policy ≡ v → (v || is_carried scripts policy) ≡ true → Contains (map sha256 (s ∷ scripts)) policy) [
  | true ↦ λ h e. (0, omega arith, (bytes_decides (sha256 s) policy).0 h)
  | false ↦ λ h e. let later = is_there scripts policy e in let lt = later.1 in (suc later.0, omega arith, later.2)
] refl e

stands : (scripts : List (List ℕ)) (policy : List ℕ) (k : ℕ) → k < length (map sha256 scripts) → get_or (map sha256 scripts) k policy ≡ policy → is_carried scripts policy ≡ true
stands [] policy k lt e = absurd (omega arith)
stands (s ∷ scripts) policy zero lt e = ap (λ v. v || is_carried scripts policy) ((bytes_decides (sha256 s) policy).1 e)
stands (s ∷ scripts) policy (suc k) lt e = elim (same_bytes (sha256 s) policy) as (λ v. (v || is_carried scripts policy) ≡ true) [
  | true ↦ refl
  | false ↦ stands scripts policy k (omega arith) e
]

carried_Decides : (scripts : List (List ℕ)) (policy : List ℕ) → Decides (is_carried scripts policy) (Contains (map sha256 scripts) policy)
carried_Decides scripts policy = (is_there scripts policy, λ h. stands scripts policy h.0 h.1 h.2)

-- whether the script of an entry's policy is carried
abbrev pub IsCarried : List (List ℕ) → TokenEntry → Type 0
IsCarried scripts e = Contains (map sha256 scripts) e.0.policy

abbrev pub uncarried : List (List ℕ) → TokenEntry → Bool
uncarried scripts e = not (is_carried scripts e.0.policy)

pub uncarried_refutes : (scripts : List (List ℕ)) → Refutes (uncarried scripts) (IsCarried scripts)
uncarried_refutes scripts = refutes (λ (e : TokenEntry). is_carried scripts e.0.policy) (IsCarried scripts) (λ e. carried_Decides scripts e.0.policy)

-- ---- the first has the least policy

policy_itself : (policy : List ℕ) → slice_cmp nat_cmp policy policy ≡ Less → ⊥
policy_itself policy lt = let e = tied_itself nat_list_cmp_total policy in Prim.cc

-- a later token has no lesser policy
policies_rise : (a b : Token) → token_cmp a b ≡ Less → slice_cmp nat_cmp b.policy a.policy ≡ Less → ⊥
policies_rise a b lt gt =
    let back = nat_list_cmp_total.antisymm a.policy b.policy ∙ ap ordering_reverse gt in
    let e = ap (λ o. ordering_then o (slice_cmp nat_cmp a.name b.name)) back in
    Prim.cc

module _ (Good : TokenEntry → Type 0) where
  -- the entries with a lesser policy are good
  abbrev AreGoodBelow : List ℕ → List TokenEntry → Type 0
  AreGoodBelow policy es = AllByRecursion (λ e. slice_cmp nat_cmp e.0.policy policy ≡ Less → Good e) es

  none_lesser : (x : Token) (es : List TokenEntry) → below_all token_cmp x es ≡ true → AreGoodBelow x.policy es
  none_lesser x [] below = tt
  none_lesser x (e ∷ es) below = (λ lt. absurd (policies_rise x e.0 (less _ (first_so _ _ below)) lt), none_lesser x es (second_so _ _ below))

  least_policy : (p : TokenEntry → Bool) → Refutes p Good → (es : List TokenEntry) (x : TokenEntry) → is_sorted token_cmp es ≡ true → find p es ≡ Some x → AreGoodBelow x.0.policy es
  least_policy p tells [] x rising e = tt
  least_policy p tells (y ∷ es) x rising e = elim (p y) as (λ v. p y ≡ v → cond v (Some y) (find p es) ≡ Some x → AreGoodBelow x.0.policy (y ∷ es)) [
    | true ↦ λ h e.
        let same : y ≡ x = let f = e in Prim.cc in
        subst (λ z. AreGoodBelow z.0.policy (y ∷ es)) same (λ lt. absurd (policy_itself y.0.policy lt), none_lesser y.0 es (first_so _ _ rising))
    | false ↦ λ h e. (λ lt. tells.good y h, least_policy p tells es x (second_so _ _ rising) e)
  ] refl e

pub is_least : (scripts : List (List ℕ)) (forge : List TokenEntry) (x : TokenEntry) → IsBundle forge → find (uncarried scripts) forge ≡ Some x → IsLeastUncarried scripts forge x.0.policy
is_least scripts forge x is e =
    let at = first_found (uncarried scripts) (IsCarried scripts) (uncarried_refutes scripts) forge x e in
    let lt = at.first.within in
    record {
      forged = (at.place, omega (arith, lt, length-map forge (λ (y : TokenEntry). y.0.policy)), get_or-map (λ (y : TokenEntry). y.0.policy) forge at.place x x.0.policy lt ∙ ap (λ (y : TokenEntry). y.0.policy) (at.stands x));
      absent = subst (λ y. IsCarried scripts y → ⊥) (at.stands x) (at.first.bad x);
      least = All-from_recursion _ forge (least_policy (IsCarried scripts) (uncarried scripts) (uncarried_refutes scripts) forge x is.rising e);
    }
