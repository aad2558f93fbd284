use Rattle.std.proofs.Common.{◌≡◌, nat_eq, of_z, arith, sym, ap, ◌∙◌}
use Rattle.std.specs.Prelude.{Decides}
use Rattle.std.specs.Int.{w64}
use Rattle.std.proofs.lemmas.Bool.Decides.{Decides-at, nat_tests}
use Rattle.std.proofs.lemmas.Int.{ints}
use Rattle.mp_bundle.specs.Token.{coin}
use Rattle.mp_bundle.specs.Bundle.{quantity_of}
use Rattle.mp_bundle.proofs.Same.{same_entries-Decides}
use Rattle.mp_bundle.proofs.Parted.{coin_in, agree, one_of_parts, parts_of_one}
use Rattle.mp_bundle.proofs.bundle.BundlePartialEq.eq.Goals as goal

own : (c : goal.After-eq) → quantity_of c.args.self.now coin ≡ c.self.inside.coin
own c = ap (λ es. quantity_of es coin) (sym c.self.view_is) ∙ coin_in c.self.inside.coin _ c.self.invariant.above

others' : (c : goal.After-eq) → quantity_of c.args.other.now coin ≡ c.other.inside.coin
others' c = ap (λ es. quantity_of es coin) (sym c.other.view_is) ∙ coin_in c.other.inside.coin _ c.other.invariant.above

same_coin : (c : goal.After-eq) → c.self.inside.coin ≡ c.other.inside.coin
same_coin c = omega (arith, ints, nat_tests, c.if-self-other.true)

decides : (c : goal.After-eq) → Decides c.eq.result (c.args.self.now ≡ c.args.other.now)
decides c =
    let others = Decides-at c.eq.result _ c.eq.ensures (same_entries-Decides c.others.result.now c.others-then-self-other.result.now) in (
      λ h. one_of_parts _ _ _ _ _ _ c.others.ensures.whole c.others-then-self-other.ensures.whole (own c) (others' c) (same_coin c) (others.0 h),
      λ e. others.1 (parts_of_one _ _ _ _ c.others.ensures.whole c.others-then-self-other.ensures.whole e),
    )

pub returns-then-self-other-clause-same : goal.returns-then-self-other-clause-same
returns-then-self-other-clause-same c = decides c

pub returns-then-self-other-clause-gives : goal.returns-then-self-other-clause-gives
returns-then-self-other-clause-gives c = agree _ _ (decides c) (same_entries-Decides c.args.self.now c.args.other.now)

unlike : (c : goal.Else-self-other) → Decides (nat_eq (of_z w64 c.self.inside.coin) (of_z w64 c.other.inside.coin)) (c.args.self.now ≡ c.args.other.now)
unlike c =
    let own = ap (λ es. quantity_of es coin) (sym c.self.view_is) ∙ coin_in c.self.inside.coin _ c.self.invariant.above in
    let others' = ap (λ es. quantity_of es coin) (sym c.other.view_is) ∙ coin_in c.other.inside.coin _ c.other.invariant.above in (
      λ h. absurd (c.if-self-other.false (grind (arith, nat_tests, h))),
      λ e. absurd (c.if-self-other.false (ap (of_z w64) (sym own ∙ ap (λ es. quantity_of es coin) e ∙ others'))),
    )

pub returns-else-self-other-clause-gives : goal.returns-else-self-other-clause-gives
returns-else-self-other-clause-gives c = agree _ _ (unlike c) (same_entries-Decides c.args.self.now c.args.other.now)

pub returns-else-self-other-clause-same : goal.returns-else-self-other-clause-same
returns-else-self-other-clause-same c = unlike c
