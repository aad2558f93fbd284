use Rattle.std.proofs.Common.{rules, arith, sym, ap, ◌∙◌, ◌≡◌, pos}
use Rattle.std.specs.Prelude.{FitsSigned}
use Rattle.std.specs.Option.{unwrap_or}
use Rattle.std.specs.Int.{w128}
use Rattle.std.proofs.lemmas.Int.{ints}
use Rattle.mp_bundle.specs.Bundle.{quantity_of}
use Rattle.mp_bundle.proofs.TotalsLemmas.{raised, raised_room, quantity-get}
use Rattle.mp_bundle.proofs.totals.raise.Goals as goal

pub returns-in-Some-clause-raised : goal.returns-in-Some-clause-raised
returns-in-Some-clause-raised c =
    let total : quantity_of c.args.totals.now.entries c.args.token.now ≡ c.in-Some.total.now =
    quantity-get c.args.totals.now c.args.token.now ∙ ap (λ o. unwrap_or o (pos 0)) (sym c.in-Some.ensures.value) in
    let fits : FitsSigned w128 c.in-Some.total.now = search rules in
    raised c.args.totals.now c.get_mut.follows.lender c.args.token.now c.get_mut.follows.holds c.in-Some.total.now c.args.by _ (sym c.in-Some.ensures.value) (omega (arith, ints))

pub returns-in-Some-clause-room : goal.returns-in-Some-clause-room
returns-in-Some-clause-room c = raised_room c.args.totals.now c.get_mut.follows.lender c.args.token.now c.get_mut.follows.holds c.in-Some.total.now _ (sym c.in-Some.ensures.value)
