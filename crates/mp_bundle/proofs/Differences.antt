-- The least token whose totals differ is the lesser of the first that each side doesn't share.
use Rattle.std.proofs.Common.{◌≡◌, ◌≢◌, ◌⊎◌, inl, inr, ℤ, pos, true, false, cond, not, ◌&&◌, List, [], ◌∷◌, refl, sym, ap, subst, ◌∙◌}
use Rattle.std.specs.Prelude.{Option, Some, None, MatchOption}
use Rattle.std.specs.Option.{unwrap_or}
use Rattle.std.specs.Ordering.{is_lt, is_eq, eq_by_cmp, int_eq, ordering_reverse}
use Rattle.std.specs.Cmp.{signed_Decides, tied_itself, alike_right, first_so, second_so}
use Rattle.std.specs.FinMap.{find, is_sorted}
use Rattle.std.specs.FinMap.Entries.{below_all}
use Rattle.std.specs.declared.cmp.Ordering.{Ordering}
use Rattle.std.specs.declared.cmp.Ordering.TheVariants.{Less, Equal, Greater}
use Rattle.mp_bundle.specs.declared.sum.Sum.TheInside.{Inside}
use Rattle.mp_bundle.specs.declared.token.Token.{Token}
use Rattle.mp_bundle.specs.Token.{coin, token_cmp}
use Rattle.mp_bundle.specs.Bundle.{TokenEntry, quantity_of}
use Rattle.mp_bundle.specs.Inside.Totals.{first_unlike, lesser}
use Rattle.mp_bundle.specs.Inside.Sum.{totals_of, sum_of, IsHeld}
use Rattle.mp_bundle.specs.Sum.{Sum, total_of, AreAlike, IsFirstDifference}
use Rattle.mp_bundle.proofs.Tokens.{token_total, token_exact}
use Rattle.mp_bundle.proofs.Search.{equal, less}
use Rattle.mp_bundle.proofs.Coin.{at_coin, past_coin, same_beside, tied_not_above}
use Rattle.mp_bundle.proofs.TotalsLemmas.{find_below, total-nonzero}

-- the entries have the token with the same quantity as the others, or not at all
abbrev Agree : List TokenEntry → List TokenEntry → Token → Type 0
Agree es fs q = (quantity_of es q ≡ quantity_of fs q) ⊎ (find token_cmp q es ≡ None)

-- no quantity of the entries differs below the token
record IsFirstOf (es fs : List TokenEntry) (token : Token) : Type 0 where
  differs : quantity_of es token ≢ quantity_of fs token
  before : (q : Token) → token_cmp q token ≡ Less → Agree es fs q

-- a later entry changes nothing of what is at another token
agree-cons : (e : TokenEntry) (es fs : List TokenEntry) (q : Token) → quantity_of fs e.0 ≡ e.1 → Agree es fs q → Agree (e ∷ es) fs q
agree-cons e es fs q here rest =
    elim (eq_by_cmp token_cmp q e.0) as (λ b. eq_by_cmp token_cmp q e.0 ≡ b → (unwrap_or (cond b (Some e.1) (find token_cmp q es)) (pos 0) ≡ quantity_of fs q) ⊎ (cond b (Some e.1) (find token_cmp q es) ≡ None)) [
      | true ↦ λ same. inl (sym here ∙ ap (quantity_of fs) (sym (token_exact q e.0 (equal _ same))))
      | false ↦ λ same. rest
    ] refl

not_less : (a b : Token) → token_cmp a b ≡ Less → eq_by_cmp token_cmp b a ≡ false
not_less a b h = ap is_eq (token_total.antisymm b a ∙ ap ordering_reverse h)

below_trans : (q a : Token) (es : List TokenEntry) → token_cmp q a ≡ Less → below_all token_cmp a es ≡ true → below_all token_cmp q es ≡ true
below_trans q a [] h below = refl
below_trans q a (e ∷ es) h below =
    ap (λ o. is_lt o && below_all token_cmp q es) (token_total.trans q a e.0 h (less _ (first_so _ _ below))) ∙ below_trans q a es h (second_so _ _ below)

-- what the search finds, from the first entry on
abbrev Found : List TokenEntry → List TokenEntry → Option Token → Type 0
Found es fs found = MatchOption found ((q : Token) → Agree es fs q) (IsFirstOf es fs)

above : (a : Token) (es fs : List TokenEntry) (k : Token) → below_all token_cmp a es ≡ true → first_unlike es fs ≡ Some k → token_cmp a k ≡ Less
above a [] fs k below is = Prim.cc
above a (e ∷ es) fs k below is =
    elim (int_eq (quantity_of fs e.0) e.1) as (λ b. cond (not b) (Some e.0) (first_unlike es fs) ≡ Some k → token_cmp a k ≡ Less) [
      | true ↦ λ rest. above a es fs k (second_so _ _ below) rest
      | false ↦ λ here. subst (λ t. token_cmp a t ≡ Less) (let e = here in Prim.cc) (less _ (first_so _ _ below))
    ] is

found_later : (e : TokenEntry) (es fs : List TokenEntry) → is_sorted token_cmp (e ∷ es) ≡ true → quantity_of fs e.0 ≡ e.1 → (found : Option Token) → first_unlike es fs ≡ found → Found es fs found → Found (e ∷ es) fs found
found_later e es fs rising here None is all = λ q. agree-cons e es fs q here (all q)
found_later e es fs rising here (Some k) is first =
    let apart : eq_by_cmp token_cmp k e.0 ≡ false = not_less e.0 k (above e.0 es fs k (first_so _ _ rising) is) in
    record {
      differs = λ same. first.differs (sym (ap (λ b. unwrap_or (cond b (Some e.1) (find token_cmp k es)) (pos 0)) apart) ∙ same);
      before = λ q lt. agree-cons e es fs q here (first.before q lt);
    }

found_here : (e : TokenEntry) (es fs : List TokenEntry) → is_sorted token_cmp (e ∷ es) ≡ true → (quantity_of fs e.0 ≢ e.1) → IsFirstOf (e ∷ es) fs e.0
found_here e es fs rising differs = record {
  differs = λ same. differs (sym same ∙ ap (λ o. unwrap_or (cond (is_eq o) (Some e.1) (find token_cmp e.0 es)) (pos 0)) (tied_itself token_total e.0));
  before = λ q lt. inr (ap (λ o. cond (is_eq o) (Some e.1) (find token_cmp q es)) lt ∙ find_below es q (below_trans q e.0 es lt (first_so _ _ rising)));
}

found_first : (es fs : List TokenEntry) → is_sorted token_cmp es ≡ true → Found es fs (first_unlike es fs)
found_first [] fs rising = λ q. inr refl
found_first (e ∷ es) fs rising =
    elim (int_eq (quantity_of fs e.0) e.1) as (λ b. int_eq (quantity_of fs e.0) e.1 ≡ b → Found (e ∷ es) fs (cond (not b) (Some e.0) (first_unlike es fs))) [
      | true ↦ λ t. found_later e es fs rising ((signed_Decides (quantity_of fs e.0) e.1).0 t) (first_unlike es fs) refl (found_first es fs (second_so _ _ rising))
      | false ↦ λ t. found_here e es fs rising (λ same. let s = (signed_Decides (quantity_of fs e.0) e.1).1 same in Prim.cc)
    ] refl

-- both sides agree on a token that each has with the quantity of the other, or not at all
alike : (es fs : List TokenEntry) (q : Token) → Agree es fs q → Agree fs es q → quantity_of es q ≡ quantity_of fs q
alike es fs q (inl same) other = same
alike es fs q (inr none) (inl same) = sym same
alike es fs q (inr none) (inr gone) = ap (λ o. unwrap_or o (pos 0)) (none ∙ sym gone)

-- the least token at which the quantities differ
record IsLeast (es fs : List TokenEntry) (token : Token) : Type 0 where
  differs : quantity_of es token ≢ quantity_of fs token
  least : (q : Token) → token_cmp q token ≡ Less → quantity_of es q ≡ quantity_of fs q

not_above : (a b q : Token) → is_lt (token_cmp b a) ≡ false → token_cmp q a ≡ Less → token_cmp q b ≡ Less
not_above a b q h lt = by (token_cmp a b) refl
  where
    by : (o : Ordering) → token_cmp a b ≡ o → token_cmp q b ≡ Less
    by Less e = token_total.trans q a b lt e
    by Equal e = sym (alike_right token_total a b q e) ∙ lt
    by Greater e = let s = ap is_lt (token_total.antisymm b a ∙ ap ordering_reverse e) in Prim.cc

join : (es fs : List TokenEntry) (a b : Option Token) → Found es fs a → Found fs es b → MatchOption (lesser a b) ((q : Token) → quantity_of es q ≡ quantity_of fs q) (IsLeast es fs)
join es fs None None f g = λ q. alike es fs q (f q) (g q)
join es fs None (Some b) f g = record { differs = λ same. g.differs (sym same); least = λ q lt. alike es fs q (f q) (g.before q lt) }
join es fs (Some a) None f g = record { differs = f.differs; least = λ q lt. alike es fs q (f.before q lt) (g q) }
join es fs (Some a) (Some b) f g =
    elim (is_lt (token_cmp b a)) as (λ v. is_lt (token_cmp b a) ≡ v → MatchOption (cond v (Some b) (Some a)) ((q : Token) → quantity_of es q ≡ quantity_of fs q) (IsLeast es fs)) [
      | true ↦ λ e. record { differs = λ same. g.differs (sym same); least = λ q lt. alike es fs q (f.before q (token_total.trans q b a lt (less _ e))) (g.before q lt) }
      | false ↦ λ e. record { differs = f.differs; least = λ q lt. alike es fs q (f.before q lt) (g.before q (not_above a b q e lt)) }
    ] refl

-- what the search finds, from the first token at which the totals differ
abbrev Least : List TokenEntry → List TokenEntry → Option Token → Type 0
Least es fs found = MatchOption found ((q : Token) → quantity_of es q ≡ quantity_of fs q) (IsLeast es fs)

module _ (a b : Sum) (es fs : List TokenEntry) (is_a : (q : Token) → total_of a q ≡ quantity_of es q) (is_b : (q : Token) → total_of b q ≡ quantity_of fs q) where
  seen : (found : Option Token) → Least es fs found → MatchOption found (AreAlike a b) (IsFirstDifference a b)
  seen None all = λ q. is_a q ∙ all q ∙ sym (is_b q)
  seen (Some k) first = record {
    differs = λ same. first.differs (sym (is_a k) ∙ same ∙ is_b k);
    least = λ q lt. is_a q ∙ first.least q lt ∙ sym (is_b q);
  }

  pub difference : is_sorted token_cmp es ≡ true → is_sorted token_cmp fs ≡ true → MatchOption (lesser (first_unlike es fs) (first_unlike fs es)) (AreAlike a b) (IsFirstDifference a b)
  difference rise_es rise_fs = seen _ (join es fs (first_unlike es fs) (first_unlike fs es) (found_first es fs rise_es) (found_first fs es rise_fs))

-- coin before entries that are all greater
abbrev AreAbove : List TokenEntry → Type 0
AreAbove es = (q : Token) → is_lt (token_cmp coin q) ≡ false → quantity_of es q ≡ pos 0

module _ (es fs : List TokenEntry) (above_es : AreAbove es) (above_fs : AreAbove fs) where
  neither : (q : Token) → is_lt (token_cmp coin q) ≡ false → quantity_of es q ≡ quantity_of fs q
  neither q low = above_es q low ∙ sym (above_fs q low)

  below_coin : (c d : ℤ) (q : Token) → token_cmp q coin ≡ Less → quantity_of ((coin, c) ∷ es) q ≡ quantity_of ((coin, d) ∷ fs) q
  below_coin c d q lt =
      past_coin c es q (ap is_eq lt) ∙ neither q (ap is_lt (token_total.antisymm coin q) ∙ ap (λ o. is_lt (ordering_reverse o)) lt) ∙ sym (past_coin d fs q (ap is_eq lt))

  least_at_coin : (c d : ℤ) → (c ≢ d) → IsLeast ((coin, c) ∷ es) ((coin, d) ∷ fs) coin
  least_at_coin c d differs = record { differs = λ same. differs (sym (at_coin c es) ∙ same ∙ at_coin d fs); least = below_coin c d }

  same_past : (c : ℤ) (k : Token) → quantity_of ((coin, c) ∷ es) k ≡ quantity_of ((coin, c) ∷ fs) k → quantity_of es k ≡ quantity_of fs k
  same_past c k same = elim (eq_by_cmp token_cmp k coin) as (λ b. eq_by_cmp token_cmp k coin ≡ b → quantity_of es k ≡ quantity_of fs k) [
    | true ↦ λ e. neither k (tied_not_above k e)
    | false ↦ λ e. sym (past_coin c es k e) ∙ same ∙ past_coin c fs k e
  ] refl

  beside : (c : ℤ) (found : Option Token) → Least es fs found → Least ((coin, c) ∷ es) ((coin, c) ∷ fs) found
  beside c None all = λ q. same_beside c es fs q (all q)
  beside c (Some k) first = record { differs = λ same. first.differs (same_past c k same); least = λ q lt. same_beside c es fs q (first.least q lt) }

  least_past : (c : ℤ) → is_sorted token_cmp es ≡ true → is_sorted token_cmp fs ≡ true → Least ((coin, c) ∷ es) ((coin, c) ∷ fs) (lesser (first_unlike es fs) (first_unlike fs es))
  least_past c rise_es rise_fs = beside c _ (join es fs (first_unlike es fs) (first_unlike fs es) (found_first es fs rise_es) (found_first fs es rise_fs))

module _ (s t : Inside) (held_s : IsHeld s) (held_t : IsHeld t) where
  seen_of : (found : Option Token) → Least (totals_of s) (totals_of t) found → MatchOption found (AreAlike (sum_of s) (sum_of t)) (IsFirstDifference (sum_of s) (sum_of t))
  seen_of found least = seen (sum_of s) (sum_of t) (totals_of s) (totals_of t) (total-nonzero (totals_of s)) (total-nonzero (totals_of t)) found least

  -- coin comes before all others
  pub coin_differs : (s.coin ≢ t.coin) → IsFirstDifference (sum_of s) (sum_of t) coin
  coin_differs differs = seen_of (Some coin) (least_at_coin s.totals.entries t.totals.entries held_s.above held_t.above s.coin t.coin differs)

  -- if the quantities of coin are equal
  pub difference_past : s.coin ≡ t.coin → is_sorted token_cmp s.totals.entries ≡ true → is_sorted token_cmp t.totals.entries ≡ true
      → (found : Option Token) → lesser (first_unlike s.totals.entries t.totals.entries) (first_unlike t.totals.entries s.totals.entries) ≡ found → MatchOption found (AreAlike (sum_of s) (sum_of t)) (IsFirstDifference (sum_of s) (sum_of t))
  difference_past same rise_s rise_t found is =
      let least = least_past s.totals.entries t.totals.entries held_s.above held_t.above s.coin rise_s rise_t in
      seen_of found (subst (Least (totals_of s) (totals_of t)) is (subst (λ n. Least (totals_of s) ((coin, n) ∷ t.totals.entries) (lesser (first_unlike s.totals.entries t.totals.entries) (first_unlike t.totals.entries s.totals.entries))) same least))
