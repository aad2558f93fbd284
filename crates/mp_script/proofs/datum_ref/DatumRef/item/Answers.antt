use Rattle.std.proofs.Common.{arith, sym, ap, subst, ◌∙◌}
use Rattle.std.specs.Prelude.{Some}
use Rattle.std.specs.Option.{option_map}
use Rattle.mp_script.specs.Datum.{Datum, item_in}
use Rattle.mp_script.specs.DataReading.{tree_of}
use Rattle.mp_script.specs.Datum.{IsDatum}
use Rattle.mp_script.specs.Inside.DatumRef.{items_seen}
use Rattle.mp_script.proofs.DatumRefLaws.{no_items, some_items, past_all, items_fit, item_is_datum, tree_is}
use Rattle.mp_script.proofs.datum_ref.DatumRef.item.Goals as goal

pub returns-in_err-count : goal.returns-in_err-count
returns-in_err-count c =
    let e = ap items_seen (sym c.self.view_is) ∙ sym c.items_in.ensures ∙ ap (option_map (λ f. (f.0, f.1.now))) c.in_err-count.was in
    ap (option_map tree_of) c.from_residual.ensures ∙ sym (no_items c.args.self.now c.args.place (subst IsDatum c.self.view_is c.self.invariant) e).1

pub returns-then-place-count : goal.returns-then-place-count
returns-then-place-count c =
    let e = ap items_seen (sym c.self.view_is) ∙ sym c.items_in.ensures ∙ ap (option_map (λ f. (f.0, f.1.now))) c.in_ok-count.was in
    sym (past_all (tree_of c.args.self.now) _ _ c.args.place (some_items c.args.self.now _ _ (subst IsDatum c.self.view_is c.self.invariant) e) c.if-place-count.true)

pub item_bytes-requires : goal.item_bytes-requires
item_bytes-requires c =
    let e = ap items_seen (sym c.self.view_is) ∙ sym c.items_in.ensures ∙ ap (option_map (λ f. (f.0, f.1.now))) c.in_ok-count.was in
    let l = some_items c.args.self.now _ _ (subst IsDatum c.self.view_is c.self.invariant) e in
    (l.items, (items_fit c.args.self.now l.items (subst IsDatum c.self.view_is c.self.invariant) l.is, omega (arith, l.number, c.if-place-count.false), l.split))

pub invariant_of-result : goal.invariant_of-result
invariant_of-result c =
    let e = ap items_seen (sym c.self.view_is) ∙ sym c.items_in.ensures ∙ ap (option_map (λ f. (f.0, f.1.now))) c.in_ok-count.was in
    let l = some_items c.args.self.now _ _ (subst IsDatum c.self.view_is c.self.invariant) e in
    let i = c.item_bytes.ensures l.items (items_fit c.args.self.now l.items (subst IsDatum c.self.view_is c.self.invariant) l.is) (omega (arith, l.number, c.if-place-count.false)) l.split in
    (i.0, item_is_datum c.args.self.now c.item_bytes.result.now l.items c.args.place i.0 (subst IsDatum c.self.view_is c.self.invariant) l.is i.1 i.2)

pub returns : goal.returns
returns c =
    let e = ap items_seen (sym c.self.view_is) ∙ sym c.items_in.ensures ∙ ap (option_map (λ f. (f.0, f.1.now))) c.in_ok-count.was in
    let l = some_items c.args.self.now _ _ (subst IsDatum c.self.view_is c.self.invariant) e in
    let i = c.item_bytes.ensures l.items (items_fit c.args.self.now l.items (subst IsDatum c.self.view_is c.self.invariant) l.is) (omega (arith, l.number, c.if-place-count.false)) l.split in
    let s = item_is_datum c.args.self.now c.item_bytes.result.now l.items c.args.place i.0 (subst IsDatum c.self.view_is c.self.invariant) l.is i.1 i.2 in
    ap Some (tree_is c.item_bytes.result.now i.0 s) ∙ sym i.1 ∙ sym (ap (λ (x : Datum). item_in x c.args.place) l.is)
