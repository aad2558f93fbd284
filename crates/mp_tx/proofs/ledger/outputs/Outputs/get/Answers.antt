use Rattle.std.proofs.Common.{List, ap, ◌∙◌}
use Rattle.std.specs.Prelude.{Some, None}
use Rattle.std.specs.FinMap.{get}
use Rattle.std.specs.Map.{lookup}
use Rattle.std.specs.Arc.{arc_value}
use Rattle.mp_tx.specs.Reference.{same_ref}
use Rattle.mp_tx.specs.Inside.Tables.{Layer, Outputs, all_of}
use Rattle.mp_tx.proofs.Changed.{found-changed}
use Rattle.mp_tx.proofs.ledger.outputs.Outputs.get.Goals as goal

pub returns-in-Some : goal.returns-in-Some
returns-in-Some c =
    let r = c.args.reference.now in
    let o = c.self.inside in
    let found = c.in-Some.ensures ∙ ap (λ (ls : List Layer). lookup (same_ref r) (all_of ls)) c.as_slice.ensures in
    c.output.ensures
    ∙ found-changed (arc_value o.base).entries (all_of o.layers) r (Some c.in-Some.change.now) found
    ∙ ap (λ (u : Outputs). get u.utxo r) c.self.view_is

pub returns-in-None : goal.returns-in-None
returns-in-None c =
    let r = c.args.reference.now in
    let o = c.self.inside in
    let found = c.in-None.ensures ∙ ap (λ (ls : List Layer). lookup (same_ref r) (all_of ls)) c.as_slice.ensures in
    c.get.ensures.value ∙ ap (λ m. lookup (same_ref r) m.entries) c.deref.ensures
    ∙ found-changed (arc_value o.base).entries (all_of o.layers) r None found
    ∙ ap (λ (u : Outputs). get u.utxo r) c.self.view_is
