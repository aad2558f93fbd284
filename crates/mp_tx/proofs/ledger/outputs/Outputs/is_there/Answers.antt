use Rattle.std.proofs.Common.{sym, ap, ◌∙◌}
use Rattle.std.specs.Prelude.{is_some}
use Rattle.std.specs.FinMap.{get}
use Rattle.mp_tx.proofs.Changed.{get-changed, after, copied_some}
use Rattle.mp_tx.proofs.ledger.outputs.Outputs.is_there.Goals as goal

pub returns-in-Some : goal.returns-in-Some
returns-in-Some c =
    let u = c.args.self.now.utxo in
    let r = c.args.reference.now in
    c.is_some.ensures ∙ copied_some c.output.result
    ∙ ap is_some (c.output.ensures ∙ ap (λ l. after l (get u r)) c.in-Some.ensures.value ∙ sym (get-changed u c.args.changes.now.entries r))

pub returns-in-None : goal.returns-in-None
returns-in-None c =
    let u = c.args.self.now.utxo in
    let r = c.args.reference.now in
    c.is_some-in-None.ensures ∙ copied_some c.get-in-None.result
    ∙ ap is_some (c.get-in-None.ensures ∙ ap (λ l. after l (get u r)) c.in-None.ensures.value ∙ sym (get-changed u c.args.changes.now.entries r))
