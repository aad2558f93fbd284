use Rattle.std.proofs.Common.{ap, sym, ◌∙◌}
use Rattle.mp_versions.specs.Pages.{last_by, last_ticket}
use Rattle.mp_versions.proofs.Parts.{last_by-push}
use Rattle.mp_versions.proofs.page.Page.last_ticket.Goals as goal

pub returns-in-Some : goal.returns-in-Some
returns-in-Some c =
    c.last_ticket.ensures
    ∙ sym (ap (last_by last_ticket 0) (sym c.as_slice.ensures ∙ c.in-Some.ensures.cases.0) ∙ last_by-push last_ticket 0 c.in-Some.field-0-1.now c.in-Some.chunk.now)
