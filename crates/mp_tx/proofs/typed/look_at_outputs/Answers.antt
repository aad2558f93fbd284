use Rattle.std.proofs.Common.{subst}
use Rattle.std.specs.List.{All}
use Rattle.std.proofs.lemmas.List.{take_all}
use Rattle.std.proofs.lemmas.List.Elements.{All-more}
use Rattle.mp_tx.specs.Inside.Parts.{IsTypedOutput}
use Rattle.mp_tx.proofs.typed.look_at_outputs.Goals as goal

pub loop-output-preserved : goal.loop-output-preserved
loop-output-preserved c = All-more IsTypedOutput c.args.outputs.now c.loop-output.output-index _ c.loop-output-test.true c.loop-output.invariant (subst IsTypedOutput c.output-item.is c.look_at_output.ensures)

pub returns : goal.returns
returns c = subst (All IsTypedOutput) (take_all c.loop-output.output-index c.args.outputs.now c.loop-output-test.false) c.loop-output.invariant
