use Rattle.std.proofs.Common.{◌≡◌, ℕ, List, ap, sym, subst, ◌∙◌}
use Rattle.std.specs.Prelude.{Option, None, Some, IfSome, IfNone, slice_get}
use Rattle.std.specs.Option.{option_map}
use Rattle.mp_tx.specs.declared.reference.OutRef.{OutRef}
use Rattle.mp_tx.specs.Transaction.{Transaction}
use Rattle.mp_utxo.specs.declared.applied.Applied.{Applied}
use Rattle.mp_utxo.specs.ById.{key_of}
use Rattle.mp_utxo.specs.Overlay.{Overlay, IsUnder, HasNone}
use Rattle.mp_utxo.specs.Inside.Applied.{items}
use Rattle.mp_utxo.specs.Inside.Changes.{last_change, place_of}
use Rattle.mp_utxo.specs.Inside.Bare.{HaveOutputs, IsNotedSo, noted_at}
use Rattle.mp_utxo.proofs.Items.{IsFound, found, none-found}
use Rattle.mp_utxo.proofs.overlay.Overlay.ticket_of.Goals as goal

there : (c : goal.After-ticket_at) → IsFound c.self.inside.applied.items c.args.id.now c.in-Some.place
there c =
    found c.self.inside.applied.items c.args.id.now (last_change c.self.inside.changes.entries (key_of c.args.id.now)) c.in-Some.place
    (ap (λ (r : OutRef). place_of (last_change c.self.inside.changes.entries r)) (sym c.key_of.ensures) ∙ sym c.place_of.ensures ∙ c.in-Some.is)
    (c.self.invariant.changes.made (key_of c.args.id.now))

-- the ticket that is read there
is : (c : goal.After-ticket_at) → c.ticket_at.result ≡ Some (there c).ticket
is c = c.ticket_at.ensures ∙ ap (λ (l : List Applied). option_map (λ a. a.ticket) (slice_get l c.in-Some.place)) c.deref.ensures.value ∙ (there c).at

pub returns-in-Some-clause-some : goal.returns-in-Some-clause-some
returns-in-Some-clause-some c =
    subst (λ (o : Overlay). IfSome c.ticket_at.result (IsUnder o.items c.args.id.now)) c.self.view_is
    (subst (λ (o : Option ℕ). IfSome o (IsUnder (items c.self.inside.applied.items) c.args.id.now)) (sym (is c)) (there c).under)

pub returns-in-Some-clause-none : goal.returns-in-Some-clause-none
returns-in-Some-clause-none c = subst (λ (o : Option ℕ). IfNone o (HasNone c.args.self.now.items c.args.id.now)) (sym (is c)) tt

-- if no ticket is recorded
absent : (items : List (ℕ × Transaction)) (id : List ℕ) (o : Option ℕ) → (HaveOutputs items id → HasNone items id) → IsNotedSo items id o → IfNone o (HasNone items id)
absent items id None none noted = none noted
absent items id (Some n) none noted = tt

pub returns-in-None-clause-none : goal.returns-in-None-clause-none
returns-in-None-clause-none c =
    let es = items c.self.inside.applied.items in
    let noted = noted_at c.self.inside.bare.entries (key_of c.args.id.now) in
    subst (λ (o : Overlay). IfNone c.ticket_of_bare.result (HasNone o.items c.args.id.now)) c.self.view_is
    (subst (λ (o : Option ℕ). IfNone o (HasNone es c.args.id.now)) (sym c.ticket_of_bare.ensures)
    (absent es c.args.id.now noted
    (none-found c.self.inside.applied.items c.args.id.now (last_change c.self.inside.changes.entries (key_of c.args.id.now))
    (ap (λ (r : OutRef). place_of (last_change c.self.inside.changes.entries r)) (sym c.key_of.ensures) ∙ sym c.place_of.ensures ∙ c.in-None.is)
    (c.self.invariant.changes.made (key_of c.args.id.now)))
    (c.self.invariant.bare c.args.id.now)))
