use Rattle.std.proofs.Common.{ap, sym, ◌∙◌}
use Rattle.std.specs.Prelude.{find, option_and_then, slice_get}
use Rattle.mp_names.specs.Inside.ScriptTable.{hashes_script}
use Rattle.mp_names.proofs.Placing.{find-place}
use Rattle.mp_names.proofs.script_table.ScriptTable.get_by_hash.Goals as goal

pub returns : goal.returns
returns c =
    c.script_at.ensures ∙ ap (λ ns. option_and_then (slice_get ns) c.place_under.result) c.deref.ensures.value
    ∙ ap (option_and_then (slice_get c.self.inside.scripts.items)) (c.place_under.ensures ∙ c.self.invariant.1 c.args.hash.now)
    ∙ sym (find-place (hashes_script c.args.hash.now) c.self.inside.scripts.items) ∙ ap (find (hashes_script c.args.hash.now)) c.self.view_is
