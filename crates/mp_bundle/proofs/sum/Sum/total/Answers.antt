use Rattle.std.proofs.Common.{arith, sym, ap, ◌∙◌}
use Rattle.std.proofs.lemmas.Int.{ints}
use Rattle.mp_bundle.specs.Token.{token}
use Rattle.mp_bundle.specs.Bundle.{quantity_of}
use Rattle.mp_bundle.specs.Inside.Sum.{totals_of}
use Rattle.mp_bundle.proofs.Coin.{is_coin, not_coin, at_coin, past_coin}
use Rattle.mp_bundle.proofs.TokenOf.{named, unnamed}
use Rattle.mp_bundle.proofs.TotalsLemmas.{total-nonzero}
use Rattle.mp_bundle.proofs.sum.Sum.total.Goals as goal

pub returns-in-Some : goal.returns-in-Some
returns-in-Some c =
    let asked = token c.args.policy.now c.args.name.now in
    let same = named c.args.policy.now c.args.name.now c.in-Some.token (sym c.of.ensures ∙ c.in-Some.is) ∙ is_coin c.in-Some.token (sym c.is_coin.ensures.same ∙ c.if-is_coin.true) in
    let is = ap (quantity_of (totals_of c.self.inside)) same ∙ at_coin c.self.inside.coin c.self.inside.totals.entries in
    rw (← c.self.view_is, total-nonzero (totals_of c.self.inside) asked) (omega (arith, ints, is))

pub returns-in-Some-2 : goal.returns-in-Some-2
returns-in-Some-2 c =
    let asked = token c.args.policy.now c.args.name.now in
    let same = named c.args.policy.now c.args.name.now c.in-Some.token (sym c.of.ensures ∙ c.in-Some.is) in
    let past = past_coin c.self.inside.coin c.self.inside.totals.entries c.in-Some.token (not_coin c.in-Some.token (sym c.is_coin.ensures.same ∙ c.if-is_coin.false)) in
    let is = c.total_at.ensures ∙ sym past ∙ ap (quantity_of (totals_of c.self.inside)) (sym same) in
    rw (← c.self.view_is, total-nonzero (totals_of c.self.inside) asked) (omega (arith, ints, is))

pub returns-in-None : goal.returns-in-None
returns-in-None c =
    let asked = token c.args.policy.now c.args.name.now in
    let long = unnamed c.args.policy.now c.args.name.now (sym c.of.ensures ∙ c.in-None.is) in
    rw (← c.self.view_is) (sym (total-nonzero (totals_of c.self.inside) asked ∙ c.self.invariant.short asked long))
