-- What a sum preserves when a bundle is added.
use Rattle.std.proofs.Common.{◌≡◌, ℕ, ◌+◌, ◌-◌, ◌*◌, ◌^◌, ◌<◌, ◌≤◌, ℤ, pos, ◌+ℤ◌, true, false, cond, List, [], ◌∷◌, refl, sym, ap, subst, ◌∙◌, arith}
use Rattle.std.specs.Prelude.{Some, None}
use Rattle.std.specs.Option.{unwrap_or}
use Rattle.std.specs.Ordering.{is_lt, eq_by_cmp}
use Rattle.std.specs.Cmp.{first_so}
use Rattle.std.specs.List.{AllByRecursion}
use Rattle.std.specs.FinMap.{find}
use Rattle.std.specs.BTreeMap.{BTreeMap}
use Rattle.std.proofs.lemmas.Int.{ints}
use Rattle.mp_bundle.specs.declared.sum.Sum.TheInside.{Inside}
use Rattle.mp_bundle.specs.declared.token.Token.{Token}
use Rattle.mp_bundle.specs.Token.{coin, token_cmp}
use Rattle.mp_bundle.specs.Bundle.{TokenEntry, IsEntry, IsBundle, IsWithin, quantity_of, SplitsCoin}
use Rattle.mp_bundle.specs.Inside.Totals.{KeepsTotals, nonzero_of}
use Rattle.mp_bundle.specs.Sum.{Adds}
use Rattle.mp_bundle.specs.Inside.Sum.{totals_of, sum_of, IsHeld}
use Rattle.mp_bundle.proofs.Search.{long_absent}
use Rattle.mp_bundle.proofs.Coin.{tied_not_above, none_below, at_coin, past_coin, same_beside, adds_beside}
use Rattle.mp_bundle.proofs.TotalsLemmas.{total-nonzero, same_nonzero}

each_within : (es : List TokenEntry) (q : Token) → AllByRecursion IsEntry es → IsWithin (2 ^ 63 - 1) (quantity_of es q)
each_within [] q each = record { least = omega (arith, ints); greatest = omega (arith, ints) }
each_within (e ∷ es) q each = elim (eq_by_cmp token_cmp q e.0) as (λ b. IsWithin (2 ^ 63 - 1) (unwrap_or (cond b (Some e.1) (find token_cmp q es)) (pos 0))) [
  | true ↦ each.0.within
  | false ↦ each_within es q each.1
]

-- one more quantity
one_more : (n : ℕ) (a b : ℤ) → IsWithin (n * (2 ^ 63 - 1)) a → IsWithin (2 ^ 63 - 1) b → IsWithin ((n + 1) * (2 ^ 63 - 1)) (a +ℤ b)
one_more n a b h k = record { least = omega (arith, ints); greatest = omega (arith, ints) }

far_within : (n : ℕ) (a : ℤ) → n ≤ 2 ^ 32 → IsWithin (n * (2 ^ 63 - 1)) a → IsWithin (2 ^ 127 - 1) a
far_within n a few h = record { least = omega (arith, ints); greatest = omega (arith, ints) }

-- a total of zero is seen as no total
pub none_nonzero : nonzero_of ((coin, pos 0) ∷ []) ≡ nonzero_of []
none_nonzero = same_nonzero ((coin, pos 0) ∷ []) [] (λ q. elim (eq_by_cmp token_cmp q coin) as (λ b. unwrap_or (cond b (Some (pos 0)) None) (pos 0) ≡ pos 0) [ true ↦ refl | false ↦ refl ])

module _ (s : Inside) (n : BTreeMap Token ℤ) (kept : IsHeld s) (same : KeepsTotals s.totals n) where
  same_totals : (q : Token) → quantity_of ((coin, s.coin) ∷ n.entries) q ≡ quantity_of (totals_of s) q
  same_totals q = same_beside s.coin n.entries s.totals.entries q (same.same q)

  pub same_sum : sum_of (record { coin = s.coin; totals = n; added = s.added }) ≡ sum_of s
  same_sum = ap (λ z. record { added = s.added; nonzero = z }) (same_nonzero ((coin, s.coin) ∷ n.entries) (totals_of s) same_totals)

  pub room_kept : IsHeld (record { coin = s.coin; totals = n; added = s.added })
  room_kept = record {
    few = kept.few;
    within = λ q. subst (IsWithin (s.added * (2 ^ 63 - 1))) (sym (same_totals q)) (kept.within q);
    short = λ q long. same_totals q ∙ kept.short q long;
    above = λ q low. same.same q ∙ kept.above q low;
  }

  module _ (es : List TokenEntry) (bundle : IsBundle es) (few : s.added < 2 ^ 32) (k : ℤ) (os : List TokenEntry) (parts : SplitsCoin es k os) where
    next_within : (q : Token) → IsWithin ((s.added + 1) * (2 ^ 63 - 1)) (quantity_of (totals_of s) q +ℤ quantity_of es q)
    next_within q = one_more s.added _ _ (kept.within q) (each_within es q bundle.each)

    next_far : (q : Token) → IsWithin (2 ^ 127 - 1) (quantity_of (totals_of s) q +ℤ quantity_of ((coin, k) ∷ os) q)
    next_far q = subst (λ z. IsWithin (2 ^ 127 - 1) (quantity_of (totals_of s) q +ℤ z)) (sym (parts.same q)) (far_within (s.added + 1) _ (omega arith) (next_within q))

    none_low : (q : Token) → is_lt (token_cmp coin q) ≡ false → quantity_of os q ≡ pos 0
    none_low q low = ap (λ o. unwrap_or o (pos 0)) (none_below os q (first_so _ _ parts.rising) low)

    pub coin_fits : IsWithin (2 ^ 127 - 1) (s.coin +ℤ k)
    coin_fits = subst (IsWithin (2 ^ 127 - 1)) (λ i. at_coin s.coin s.totals.entries i +ℤ at_coin k os i) (next_far coin)

    pub others_fit : (q : Token) → IsWithin (2 ^ 127 - 1) (quantity_of n.entries q +ℤ quantity_of os q)
    others_fit q = elim (eq_by_cmp token_cmp q coin) as (λ b. eq_by_cmp token_cmp q coin ≡ b → IsWithin (2 ^ 127 - 1) (quantity_of n.entries q +ℤ quantity_of os q)) [
      | true ↦ λ e. subst (IsWithin (2 ^ 127 - 1)) (λ i. sym (same.same q ∙ kept.above q (tied_not_above q e)) i +ℤ sym (none_low q (tied_not_above q e)) i) (record { least = omega (arith, ints); greatest = omega (arith, ints) })
      | false ↦ λ e. subst (IsWithin (2 ^ 127 - 1)) (λ i. (past_coin s.coin s.totals.entries q e ∙ sym (same.same q)) i +ℤ past_coin k os q e i) (next_far q)
    ] refl

    module _ (r : BTreeMap Token ℤ) (raised : (q : Token) → quantity_of r.entries q ≡ quantity_of n.entries q +ℤ quantity_of os q) where
      total : (q : Token) → quantity_of ((coin, s.coin +ℤ k) ∷ r.entries) q ≡ quantity_of (totals_of s) q +ℤ quantity_of es q
      total q = adds_beside s.coin k s.totals.entries os r.entries q (raised q ∙ ap (λ t. t +ℤ quantity_of os q) (same.same q)) ∙ ap (λ t. quantity_of (totals_of s) q +ℤ t) (parts.same q)

      pub next_kept : IsHeld (record { coin = s.coin +ℤ k; totals = r; added = s.added + 1 })
      next_kept = record {
        few = omega arith;
        within = λ q. subst (IsWithin ((s.added + 1) * (2 ^ 63 - 1))) (sym (total q)) (next_within q);
        short = λ q long. total q ∙ (λ i. kept.short q long i +ℤ unwrap_or (long_absent es q bundle.each long i) (pos 0));
        above = λ q low. raised q ∙ (λ i. (same.same q ∙ kept.above q low) i +ℤ none_low q low i);
      }

      pub next_adds : Adds (sum_of s) es (sum_of (record { coin = s.coin +ℤ k; totals = r; added = s.added + 1 }))
      next_adds = record {
        added = refl;
        totals = λ q. total-nonzero ((coin, s.coin +ℤ k) ∷ r.entries) q ∙ total q ∙ ap (λ t. t +ℤ quantity_of es q) (sym (total-nonzero (totals_of s) q));
      }
