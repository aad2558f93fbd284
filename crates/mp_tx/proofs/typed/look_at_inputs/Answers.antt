use Rattle.std.proofs.Common.{subst}
use Rattle.std.specs.List.{All}
use Rattle.std.proofs.lemmas.List.{take_all}
use Rattle.std.proofs.lemmas.List.Elements.{All-more}
use Rattle.mp_tx.specs.Inside.Parts.{IsTypedInput}
use Rattle.mp_tx.proofs.typed.look_at_inputs.Goals as goal

pub loop-input-preserved : goal.loop-input-preserved
loop-input-preserved c = All-more IsTypedInput c.args.inputs.now c.loop-input.input-index _ c.loop-input-test.true c.loop-input.invariant (subst IsTypedInput c.input-item.is c.look_at_input.ensures)

pub returns : goal.returns
returns c = subst (All IsTypedInput) (take_all c.loop-input.input-index c.args.inputs.now c.loop-input-test.false) c.loop-input.invariant
