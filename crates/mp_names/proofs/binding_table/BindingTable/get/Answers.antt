use Rattle.std.proofs.Common.{ap, sym, ◌∙◌}
use Rattle.std.specs.Prelude.{find, option_and_then, slice_get}
use Rattle.mp_names.specs.Inside.BindingTable.{has_name}
use Rattle.mp_names.proofs.Numbering.{at, find-first}
use Rattle.mp_names.proofs.binding_table.BindingTable.get.Goals as goal

pub returns : goal.returns
returns c =
    let es = c.self.inside.bindings.entries in
    c.binding_at.ensures ∙ ap (option_and_then (at es)) (c.first_under.ensures ∙ ap (λ ns. slice_get ns 0) (c.self.invariant.names c.args.word.now))
    ∙ sym (find-first (has_name c.args.word.now) 0 es c.self.inside.next c.self.invariant.between) ∙ ap (find (has_name c.args.word.now)) c.self.view_is
