use Rattle.std.proofs.Common.{sym, ap, subst, ◌∙◌, ◌≤◌}
use Rattle.std.proofs.lemmas.List.Elements.{recursion_from_All}
use Rattle.mp_versions.specs.Pages.{flattened, IsPage}
use Rattle.mp_versions.proofs.Blocks.{page_spans, untouched, spans_as}
use Rattle.mp_versions.proofs.layout.removal.left_page.Goals as goal

pub returns-then-not-any_within : goal.returns-then-not-any_within
returns-then-not-any_within c =
    let ts = c.args.tickets.now in
    let page = c.args.page.now in
    let first = c.first_ticket.result in
    let last = c.last_ticket.result in
    let none = c.if-not-any_within.ensures in
    let spans = spans_as _ first _ last (flattened page) (sym c.first_ticket.ensures) (sym c.last_ticket.ensures) (page_spans page c.requires.filled c.requires.rising) in (
      ap flattened c.in_ok-share.ensures ∙ sym (untouched first last ts (flattened page) spans (recursion_from_All (λ t. first ≤ t → t ≤ last → ⊥) ts none)),
      subst IsPage (sym c.in_ok-share.ensures) c.requires.filled,
    )
