use Rattle.std.proofs.Common.{arith, List, ℕ, ap, sym, subst, ◌∙◌}
use Rattle.std.specs.Prelude.{map}
use Rattle.std.proofs.lemmas.List.{length-map}
use Rattle.mp_bytes.specs.Reading.{seen}
use Rattle.mp_script.specs.Operators.{operator_of}
use Rattle.mp_script.specs.View.{view_of}
use Rattle.mp_script.specs.Value.{value_of, Value}
use Rattle.mp_script.specs.Inside.Waiting.{Stands}
use Rattle.mp_script.proofs.OperatorLaws.{operator_shorter}
use Rattle.mp_script.proofs.EvalLaws.{begins, few_wait, next_stands}
use Rattle.mp_script.proofs.evaluation.eval.Goals as goal

pub loop-operator-init : goal.loop-operator-init
loop-operator-init c tree spells =
    subst (λ (text : List ℕ). Stands (view_of c.args.view.now) tree text (map value_of c.new-stack.result)) (sym c.bytes-rest.ensures.same)
    (subst (λ (values : List Value). Stands (view_of c.args.view.now) tree c.args.script.now values) (ap (map value_of) (sym c.new-stack.ensures)) (begins (view_of c.args.view.now) c.args.script.now tree spells))

pub act-requires-clause-operands : goal.act-requires-clause-operands
act-requires-clause-operands c =
    let script = c.bytes-rest.ensures.script in
    let n = next_stands (view_of c.args.view.now) script.0 c.loop-operator.rest.now (map value_of c.loop-operator.stack) (operator_of c.in-Ok.operator, c.in-Ok.after.now) (c.loop-operator.invariant script.0 script.1) (sym c.operator_at.ensures ∙ ap (seen (λ x. (operator_of x.0, x.1.now))) c.in-Ok.is) in
    omega (arith, n.operands, length-map c.loop-operator.stack value_of)

pub act-requires-clause-room : goal.act-requires-clause-room
act-requires-clause-room c =
    let script = c.bytes-rest.ensures.script in
    omega (arith, few_wait (view_of c.args.view.now) script.0 c.loop-operator.rest.now (map value_of c.loop-operator.stack) script.1.shallow (c.loop-operator.invariant script.0 script.1), length-map c.loop-operator.stack value_of)

pub loop-operator-smaller : goal.loop-operator-smaller
loop-operator-smaller c =
    operator_shorter c.loop-operator.rest.now (operator_of c.in-Ok.operator, c.in-Ok.after.now) (sym c.operator_at.ensures ∙ ap (seen (λ x. (operator_of x.0, x.1.now))) c.in-Ok.is)

pub loop-operator-preserved : goal.loop-operator-preserved
loop-operator-preserved c tree spells =
    (next_stands (view_of c.args.view.now) tree c.loop-operator.rest.now (map value_of c.loop-operator.stack) (operator_of c.in-Ok.operator, c.in-Ok.after.now) (c.loop-operator.invariant tree spells) (sym c.operator_at.ensures ∙ ap (seen (λ x. (operator_of x.0, x.1.now))) c.in-Ok.is)).after (map value_of c.act.new.stack) c.act.ensures
