use Rattle.std.proofs.Common.{subst}
use Rattle.std.specs.List.{All}
use Rattle.std.proofs.lemmas.List.{take_all}
use Rattle.std.proofs.lemmas.List.Elements.{All-more}
use Rattle.mp_tx.specs.Parts.{IsSignature}
use Rattle.mp_tx.proofs.typed.look_at_signatures.Goals as goal

pub loop-signature-preserved : goal.loop-signature-preserved
loop-signature-preserved c = All-more IsSignature c.args.signatures.now c.loop-signature.signature-index _ c.loop-signature-test.true c.loop-signature.invariant c.look_at_signature.ensures

pub returns : goal.returns
returns c = subst (All IsSignature) (take_all c.loop-signature.signature-index c.args.signatures.now c.loop-signature-test.false) c.loop-signature.invariant
