use Rattle.std.proofs.Common.{◌≡◌, arith, to_z, of_z, ℤ, pos, ◌||◌, int_lt, List, refl, sym, ap, ◌∙◌}
use Rattle.std.specs.Int.{w64}
use Rattle.std.proofs.lemmas.Int.{ints}
use Rattle.mp_bundle.specs.Bundle.{TokenEntry, with_coin}
use Rattle.mp_bundle.proofs.Parted.{by_coin}
use Rattle.mp_rules.specs.FirstFault.{is_negative}
use Rattle.mp_rules.proofs.own.is_negative.Goals as goal

debt_in : (n : ℤ) (os : List TokenEntry) → is_negative (with_coin n os) ≡ (int_lt n (pos 0) || is_negative os)
debt_in n os = by_coin is_negative n os (int_lt n (pos 0) || is_negative os) (λ z. sym (ap (λ k. int_lt k (pos 0) || is_negative os) z)) (λ some. refl)

pub returns-then-coin-lt0 : goal.returns-then-coin-lt0
returns-then-coin-lt0 c =
    let others = c.others-others.result.now in
    let debt = ap is_negative (sym (ap (λ k. with_coin k others) c.coin.ensures ∙ c.others-others.ensures.whole)) ∙ debt_in c.coin.result others in
    let same : to_z w64 (of_z w64 c.coin.result) ≡ c.coin.result = omega (arith, ints, c.coin.type_inv) in
    let less = ap (λ k. int_lt k (pos 0)) (sym same) ∙ c.if-coin-lt0.true in
    c.if-coin-lt0.true ∙ sym (debt ∙ ap (λ b. b || is_negative others) less)

pub returns-else-coin-lt0 : goal.returns-else-coin-lt0
returns-else-coin-lt0 c =
    let others = c.others-others.result.now in
    let debt = ap is_negative (sym (ap (λ k. with_coin k others) c.coin.ensures ∙ c.others-others.ensures.whole)) ∙ debt_in c.coin.result others in
    let same : to_z w64 (of_z w64 c.coin.result) ≡ c.coin.result = omega (arith, ints, c.coin.type_inv) in
    let less = ap (λ k. int_lt k (pos 0)) (sym same) ∙ c.if-coin-lt0.false in
    c.is_any_negative.ensures ∙ sym (debt ∙ ap (λ b. b || is_negative others) less)
