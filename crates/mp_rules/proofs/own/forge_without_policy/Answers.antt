use Rattle.std.proofs.Common.{◌≡◌, of_z, true, ℤ, pos, cond, List, Bool, sym, ap, ◌∙◌}
use Rattle.std.specs.Prelude.{◌≢◌, Some, not}
use Rattle.std.specs.List.{find}
use Rattle.std.specs.Option.{option_map}
use Rattle.std.specs.Int.{w64}
use Rattle.mp_bundle.specs.Token.{coin}
use Rattle.mp_bundle.specs.Bundle.{TokenEntry, with_coin}
use Rattle.mp_bundle.proofs.Parted.{by_coin}
use Rattle.mp_rules.specs.declared.invalid.Invalid.TheVariants as rule
use Rattle.mp_rules.specs.FirstFault.{is_carried, forge_without_policy}
use Rattle.mp_rules.proofs.own.forge_without_policy.Goals as goal

found_first : (f : TokenEntry → Bool) (n : ℤ) (os : List TokenEntry) → n ≢ pos 0 → f (coin, n) ≡ true → find f (with_coin n os) ≡ Some (coin, n)
found_first f n os some is = by_coin (find f) n os (Some (coin, n)) (λ z. absurd (some z)) (λ s. ap (λ b. cond b (Some (coin, n)) (find f os)) is)

pub returns-then-not-is_carried : goal.returns-then-not-is_carried
unfolding forge_without_policy
returns-then-not-is_carried c =
    let f : TokenEntry → Bool = λ e. not (is_carried c.args.tx.now.scripts e.0.policy) in
    let whole = ap (λ k. with_coin k c.others-others.result.now) c.coin.ensures ∙ c.others-others.ensures.whole ∙ c.forge-forge.ensures in
    let bare : f (coin, c.coin.result) ≡ true = ap not (ap (λ ss. is_carried ss coin.policy) (sym c.scripts.ensures.scripts) ∙ sym c.is_carried.ensures ∙ c.if-not-is_carried.true) in
    let some : c.coin.result ≢ pos 0 = λ e. c.if-coin-ne0.true (ap (of_z w64) e) in
    sym (ap (λ o. option_map (λ (e : TokenEntry). rule.ForgeWithoutPolicy e.0.policy) o) (ap (find f) (sym whole) ∙ found_first f c.coin.result c.others-others.result.now some bare))
