use Rattle.std.proofs.Common.{arith, sym, ap, ◌∙◌}
use Rattle.std.proofs.lemmas.Int.{ints}
use Rattle.mp_bundle.specs.Token.{token}
use Rattle.mp_bundle.specs.Bundle.{quantity_of}
use Rattle.mp_bundle.proofs.Coin.{not_coin, past_coin}
use Rattle.mp_bundle.proofs.Search.{long_name}
use Rattle.mp_bundle.proofs.TokenOf.{named}
use Rattle.mp_bundle.proofs.bundle.Bundle.quantity.Goals as goal

pub returns-in-Some-2 : goal.returns-in-Some-2
returns-in-Some-2 c =
    let asked = token c.args.policy.now c.args.name.now in
    let same = named c.args.policy.now c.args.name.now c.in-Some.token (sym c.of.ensures ∙ c.in-Some.is) in
    let past = past_coin _ c.others-others.result.now c.in-Some.token (not_coin c.in-Some.token (sym c.is_coin.ensures.same ∙ c.if-is_coin.false)) in
    let is = c.quantity_at.ensures ∙ sym past ∙ c.others-others.ensures.split.same c.in-Some.token ∙ ap (quantity_of c.args.self.now) (sym same) in
    omega (arith, ints, is)

pub returns-in-None : goal.returns-in-None
returns-in-None c = sym (long_name c.args.self.now (token c.args.policy.now c.args.name.now) c.others-others.ensures.bundle (grind (arith, c.in-None.ensures)))
