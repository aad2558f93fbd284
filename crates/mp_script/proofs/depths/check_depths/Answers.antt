use Rattle.std.proofs.Common.{arith, List, ℕ, sym, ap, ◌∙◌}
use Rattle.std.proofs.lemmas.Bool.{eqb-true}
use Rattle.mp_bytes.specs.Reading.{seen}
use Rattle.mp_script.specs.Operators.{operator_of}
use Rattle.mp_script.specs.ScriptReading.{reads}
use Rattle.mp_script.specs.Inside.Depths.{put_depth}
use Rattle.mp_script.proofs.OperatorLaws.{operator_shorter}
use Rattle.mp_script.proofs.ScriptLaws.{reading_ends}
use Rattle.mp_script.proofs.depths.check_depths.Goals as goal

pub loop-rest-init : goal.loop-rest-init
loop-rest-init c = record { reading = ap (λ (ds : List ℕ). reads put_depth 1024 ds c.args.bytes.now) c.new-depths.ensures; room = rw c.new-depths.ensures (omega arith) }

pub loop-rest-smaller : goal.loop-rest-smaller
loop-rest-smaller c =
    operator_shorter c.loop-rest.rest.now (operator_of c.in_ok-operator.operator, c.in_ok-operator.after.now) (sym c.operator_at.ensures ∙ ap (seen (λ x. (operator_of x.0, x.1.now))) c.in_ok-operator.was)

pub returns-then-len-eq1-clause-ok : goal.returns-then-len-eq1-clause-ok
returns-then-len-eq1-clause-ok c =
    reading_ends c.loop-rest.room c.loop-rest.depths c.loop-rest.rest.now _ (eqb-true _ _ (sym c.loop-rest-test.ensures)) (sym c.len.ensures.same ∙ c.if-len-eq1.true) c.loop-rest.invariant.reading
