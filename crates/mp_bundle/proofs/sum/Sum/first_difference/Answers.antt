use Rattle.std.proofs.Common.{arith, rules, of_z, sym, ap, subst, ◌∙◌, ◌≡◌}
use Rattle.std.specs.Prelude.{FitsSigned, option_copied, Some, None, length, ◌≤◌}
use Rattle.std.specs.Int.{w128}
use Rattle.std.proofs.lemmas.Int.{ints}
use Rattle.mp_bundle.specs.Inside.Totals.{first_unlike, lesser}
use Rattle.mp_bundle.proofs.Differences.{coin_differs, difference_past}
use Rattle.mp_bundle.proofs.sum.Sum.first_difference.Goals as goal

pub returns-then-self-other-clause-first : goal.returns-then-self-other-clause-first
returns-then-self-other-clause-first c =
    rw (← c.self.view_is, ← c.other.view_is) (coin_differs c.self.inside c.other.inside c.self.invariant c.other.invariant (λ e. c.if-self-other.true (ap (of_z w128) e)))

pub returns-in-Some : goal.returns-in-Some
returns-in-Some c =
    let fits : FitsSigned w128 c.self.inside.coin = search rules in
    let other_fits : FitsSigned w128 c.other.inside.coin = search rules in
    let coins : c.self.inside.coin ≡ c.other.inside.coin = omega (arith, ints, c.if-self-other.false) in
    let found : lesser (first_unlike c.self.inside.totals.entries c.other.inside.totals.entries) (first_unlike c.other.inside.totals.entries c.self.inside.totals.entries) ≡ Some c.in-Some.token.now =
    (λ i. lesser (sym c.first_unlike-missed.ensures.found i) (sym c.first_unlike.ensures.found i)) ∙ sym c.lesser.ensures ∙ ap option_copied c.in-Some.is in
    let first = difference_past c.self.inside c.other.inside c.self.invariant c.other.invariant coins c.first_unlike-missed.ensures.rising c.first_unlike.ensures.rising (Some c.in-Some.token.now) found in
    rw (← c.self.view_is, ← c.other.view_is, c.as_slice.ensures.same) (record { none = tt; first = first; short = subst (λ name. length name ≤ 32) c.as_slice.ensures.same c.as_slice.ensures.short })

pub returns-in-None : goal.returns-in-None
returns-in-None c =
    let fits : FitsSigned w128 c.self.inside.coin = search rules in
    let other_fits : FitsSigned w128 c.other.inside.coin = search rules in
    let coins : c.self.inside.coin ≡ c.other.inside.coin = omega (arith, ints, c.if-self-other.false) in
    let found : lesser (first_unlike c.self.inside.totals.entries c.other.inside.totals.entries) (first_unlike c.other.inside.totals.entries c.self.inside.totals.entries) ≡ None =
    (λ i. lesser (sym c.first_unlike-missed.ensures.found i) (sym c.first_unlike.ensures.found i)) ∙ sym c.lesser.ensures ∙ ap option_copied c.in-None.is in
    let same = difference_past c.self.inside c.other.inside c.self.invariant c.other.invariant coins c.first_unlike-missed.ensures.rising c.first_unlike.ensures.rising None found in
    rw (← c.self.view_is, ← c.other.view_is) (record { none = same; first = tt; short = tt })
