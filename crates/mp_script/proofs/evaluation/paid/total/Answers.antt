use Rattle.std.proofs.Common.{◌≡◌, ◌+◌, ◌+ℤ◌, List, ℤ, drop, ap, sym, ◌∙◌, arith, pos}
use Rattle.std.specs.Prelude.{map}
use Rattle.std.proofs.lemmas.Int.{ints}
use Rattle.std.proofs.lemmas.List.{at_drop_more, at_drop_all}
use Rattle.mp_bundle.specs.Token.{token}
use Rattle.mp_script.specs.declared.view.PaidTo as code
use Rattle.mp_script.specs.View.{paid_to_of}
use Rattle.mp_script.specs.Meaning.{paid_by, paid_to}
use Rattle.mp_script.proofs.evaluation.paid.total.Goals as goal

pub overflow_add-total : goal.overflow_add-total
overflow_add-total c = omega (arith, ints)

pub loop-output-preserved : goal.loop-output-preserved
loop-output-preserved c =
    let i = c.loop-output.output-index in
    let outputs = c.args.outputs.now in
    let address = c.args.address.now in
    let t = token c.args.policy.now c.args.name.now in
    let left = λ (os : List code.PaidTo). paid_to address t (map paid_to_of os) in
    let step : left (drop i outputs) ≡ c.paid_by.result +ℤ left (drop (i + 1) outputs) =
    at_drop_more left outputs i c.output-item.result c.loop-output-test.true
    ∙ ap (λ (o : code.PaidTo). paid_by (paid_to_of o) address t +ℤ left (drop (i + 1) outputs)) (sym c.output-item.is)
    ∙ ap (λ (n : ℤ). n +ℤ left (drop (i + 1) outputs)) (sym c.paid_by.ensures) in
    record { sum = omega (arith, ints, step, c.loop-output.invariant.sum); small = omega (arith, ints) }

pub returns : goal.returns
returns c =
    let address = c.args.address.now in
    let t = token c.args.policy.now c.args.name.now in
    let left = λ (os : List code.PaidTo). paid_to address t (map paid_to_of os) in
    let none : left (drop c.loop-output.output-index c.args.outputs.now) ≡ pos 0 = at_drop_all left c.args.outputs.now c.loop-output.output-index c.loop-output-test.false in
    omega (arith, ints, none, c.loop-output.invariant.sum)
