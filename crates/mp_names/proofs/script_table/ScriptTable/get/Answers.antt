use Rattle.std.proofs.Common.{ap, sym, ◌∙◌}
use Rattle.std.specs.Prelude.{find, option_and_then, slice_get}
use Rattle.mp_names.specs.Inside.ScriptTable.{names_script}
use Rattle.mp_names.proofs.Placing.{find-place}
use Rattle.mp_names.proofs.script_table.ScriptTable.get.Goals as goal

pub returns : goal.returns
returns c =
    c.script_at.ensures ∙ ap (λ ns. option_and_then (slice_get ns) c.place_under.result) c.deref.ensures.value
    ∙ ap (option_and_then (slice_get c.self.inside.scripts.items)) (c.place_under.ensures ∙ c.self.invariant.0 c.args.word.now)
    ∙ sym (find-place (names_script c.args.word.now) c.self.inside.scripts.items) ∙ ap (find (names_script c.args.word.now)) c.self.view_is
