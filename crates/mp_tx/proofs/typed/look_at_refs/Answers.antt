use Rattle.std.proofs.Common.{subst}
use Rattle.std.specs.List.{All}
use Rattle.std.proofs.lemmas.List.{take_all}
use Rattle.std.proofs.lemmas.List.Elements.{All-more}
use Rattle.mp_tx.specs.Parts.{IsRef}
use Rattle.mp_tx.proofs.typed.look_at_refs.Goals as goal

pub loop-reference-preserved : goal.loop-reference-preserved
loop-reference-preserved c = All-more IsRef c.args.references.now c.loop-reference.reference-index _ c.loop-reference-test.true c.loop-reference.invariant c.look_at_ref.ensures

pub returns : goal.returns
returns c = subst (All IsRef) (take_all c.loop-reference.reference-index c.args.references.now c.loop-reference-test.false) c.loop-reference.invariant
