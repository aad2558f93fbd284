use Rattle.std.proofs.Common.{◌∙◌, sym}
use Rattle.mp_rules.proofs.SameOutputs.{one_more}
use Rattle.mp_rules.proofs.checking.same_outputs.Goals as goal

pub loop-place-preserved : goal.loop-place-preserved
loop-place-preserved c = one_more c.args.a.now c.args.b.now c.loop-place.place c.index-a-place.result c.index-b-place.result c.loop-place-test.true c.if-a-b.false c.index-a-place.is c.index-b-place.is c.loop-place.invariant (sym c.ne.ensures ∙ c.if-ne.false)
