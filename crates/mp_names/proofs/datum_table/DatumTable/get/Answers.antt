use Rattle.std.proofs.Common.{ap, sym, ◌∙◌}
use Rattle.std.specs.Prelude.{find, option_and_then, slice_get}
use Rattle.mp_names.specs.Inside.DatumTable.{names_datum}
use Rattle.mp_names.proofs.Placing.{find-place}
use Rattle.mp_names.proofs.datum_table.DatumTable.get.Goals as goal

pub returns : goal.returns
returns c =
    c.datum_at.ensures ∙ ap (λ ns. option_and_then (slice_get ns) c.place_under.result) c.deref.ensures.value
    ∙ ap (option_and_then (slice_get c.self.inside.datums.items)) (c.place_under.ensures ∙ c.self.invariant c.args.word.now)
    ∙ sym (find-place (names_datum c.args.word.now) c.self.inside.datums.items) ∙ ap (find (names_datum c.args.word.now)) c.self.view_is
