use Rattle.std.proofs.Common.{ap, ◌∙◌}
use Rattle.mp_versions.specs.Pages.{is_of, has_id}
use Rattle.mp_versions.proofs.Ids.{any_seen}
use Rattle.mp_versions.proofs.layout.searching.chunk_has.Goals as goal

pub returns : goal.returns
returns c = c.items_have.ensures ∙ any_seen (is_of c.args.id.now) c.as_slice.result.now ∙ ap (has_id c.args.id.now) c.as_slice.ensures
