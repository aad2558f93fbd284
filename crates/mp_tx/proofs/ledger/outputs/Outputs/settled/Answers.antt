use Rattle.std.proofs.Common.{◌≡◌, ap, ◌∙◌, fold, List, []}
use Rattle.std.specs.Arc.{arc_value}
use Rattle.std.specs.FinMap.{from_entries}
use Rattle.mp_tx.specs.Reference.{ref_cmp}
use Rattle.mp_tx.specs.Inside.Changes.{Noted, changed, with_earlier}
use Rattle.mp_tx.specs.Inside.Tables.{Layer, Outputs, all_of}
use Rattle.mp_tx.proofs.Changed.{changed-joined}
use Rattle.mp_tx.proofs.Layering.{if_ok}
use Rattle.mp_tx.proofs.ledger.outputs.Outputs.settled.Goals as goal

pub returns : goal.returns
returns c =
    let o = c.self.inside in
    let base = from_entries {R = ref_cmp} (arc_value o.base).entries in
    let noted =
    c.in_ok-join_all.ensures.noted
    ∙ ap (λ (cs : Noted). fold with_earlier cs (all_of c.as_slice.result.now)) c.in_ok-changes.ensures.empty
    ∙ ap (λ (ls : List Layer). fold with_earlier [] (all_of ls)) c.as_slice.ensures in
    let above =
    ap (λ m. changed (from_entries {R = ref_cmp} m.entries) c.join_all.new.changes.entries) c.deref.ensures
    ∙ ap (changed base) noted
    ∙ changed-joined base [] (all_of o.layers)
    ∙ ap (λ (u : Outputs). u.utxo) c.self.view_is in
    if_ok c.settled.result (λ b is. is ∙ above) c.settled.ensures.settled
