use Rattle.std.proofs.Common.{ℕ, List, ap, sym, subst, ◌∙◌}
use Rattle.std.specs.Prelude.{Option, IfSome, slice_get}
use Rattle.std.specs.Option.{option_map}
use Rattle.mp_utxo.specs.declared.applied.Applied.{Applied}
use Rattle.mp_utxo.specs.Overlay.{Overlay}
use Rattle.mp_utxo.specs.Leaf.{IsMadeBy}
use Rattle.mp_utxo.specs.Inside.Applied.{items}
use Rattle.mp_utxo.specs.Inside.Changes.{last_change}
use Rattle.mp_utxo.proofs.Ends.{maker}
use Rattle.mp_utxo.proofs.overlay.Overlay.maker_of.Goals as goal

pub returns-in-Some : goal.returns-in-Some
returns-in-Some c =
    let r = c.args.reference.now in
    let there = maker c.self.inside.applied.items r (last_change c.self.inside.changes.entries r) c.in-Some.place (sym c.place_of.ensures ∙ c.in-Some.is) (c.self.invariant.changes.made r) in
    let is = c.ticket_at.ensures ∙ ap (λ (l : List Applied). option_map (λ a. a.ticket) (slice_get l c.in-Some.place)) c.deref.ensures.value ∙ there.at in
    subst (λ (o : Overlay). IfSome c.ticket_at.result (IsMadeBy o.items r)) c.self.view_is
    (subst (λ (o : Option ℕ). IfSome o (IsMadeBy (items c.self.inside.applied.items) r)) (sym is) there.by)
