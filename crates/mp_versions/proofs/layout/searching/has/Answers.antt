use Rattle.std.proofs.Common.{sym, ap, ◌∙◌}
use Rattle.std.specs.Prelude.{◌||◌}
use Rattle.std.specs.List.{list_any}
use Rattle.mp_versions.specs.Pages.{has_id}
use Rattle.mp_versions.proofs.Ids.{any_in}
use Rattle.mp_versions.proofs.layout.searching.has.Goals as goal

pub returns-then-pages_have : goal.returns-then-pages_have
returns-then-pages_have c =
    let id = c.args.id.now in
    let layout = c.args.layout.now in
    c.if-pages_have.true
    ∙ sym (any_in id layout.pages layout.newest ∙ ap (λ b. b || has_id id layout.newest) (sym (ap (list_any (list_any (has_id id))) c.as_slice.ensures) ∙ sym c.pages_have.ensures ∙ c.if-pages_have.true))

pub returns-else-pages_have : goal.returns-else-pages_have
returns-else-pages_have c =
    let id = c.args.id.now in
    let layout = c.args.layout.now in
    c.chunk_has.ensures
    ∙ sym (any_in id layout.pages layout.newest ∙ ap (λ b. b || has_id id layout.newest) (sym (ap (list_any (list_any (has_id id))) c.as_slice.ensures) ∙ sym c.pages_have.ensures ∙ c.if-pages_have.false))
