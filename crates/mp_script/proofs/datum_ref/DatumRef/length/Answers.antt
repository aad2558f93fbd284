use Rattle.std.proofs.Common.{subst, sym, ap, ◌∙◌}
use Rattle.std.specs.Prelude.{Some}
use Rattle.std.specs.Option.{option_map}
use Rattle.mp_script.specs.Datum.{length_in}
use Rattle.mp_script.specs.Datum.{IsDatum}
use Rattle.mp_script.specs.Inside.DatumRef.{items_seen}
use Rattle.mp_script.proofs.DatumRefLaws.{no_items, some_items}
use Rattle.mp_script.proofs.datum_ref.DatumRef.length.Goals as goal

pub returns-in_err-count : goal.returns-in_err-count
returns-in_err-count c =
    let e = ap items_seen (sym c.self.view_is) ∙ sym c.items_in.ensures ∙ ap (option_map (λ f. (f.0, f.1.now))) c.in_err-count.was in
    c.from_residual.ensures ∙ sym (no_items c.args.self.now 0 (subst IsDatum c.self.view_is c.self.invariant) e).0

pub returns : goal.returns
returns c =
    let e = ap items_seen (sym c.self.view_is) ∙ sym c.items_in.ensures ∙ ap (option_map (λ f. (f.0, f.1.now))) c.in_ok-count.was in
    let l = some_items c.args.self.now _ _ (subst IsDatum c.self.view_is c.self.invariant) e in
    ap Some l.number ∙ sym (ap length_in l.is)
