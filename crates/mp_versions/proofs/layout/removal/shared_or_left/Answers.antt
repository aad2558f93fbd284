use Rattle.std.proofs.Common.{◌≡◌, ◌≤◌, refl, sym, ap, subst, ◌∙◌}
use Rattle.std.proofs.lemmas.List.Elements.{recursion_from_All}
use Rattle.mp_seqpool.specs.Prepared.{apart}
use Rattle.mp_versions.specs.Pages.{joined, IsPage, AreFilled}
use Rattle.mp_versions.proofs.Blocks.{pages_span, untouched, spans_as}
use Rattle.mp_versions.proofs.Building.{in_other_words}
use Rattle.mp_versions.proofs.layout.removal.shared_or_left.Goals as goal

pub returns-then-not-any_within-clause-joined : goal.returns-then-not-any_within-clause-joined
returns-then-not-any_within-clause-joined c =
    let ts = c.args.tickets.now in
    let pages = c.args.pages.now in
    let last = c.last_ticket.result in
    let none = c.if-not-any_within.ensures in
    let spans = spans_as 0 0 _ last (joined pages) refl (sym c.last_ticket.ensures) (pages_span pages (recursion_from_All IsPage pages c.requires.filled) c.requires.rising) in
    in_other_words (λ ps. ps ≡ pages) (λ ps. joined ps ≡ apart ts (joined pages))
    (λ ps is. ap joined is ∙ sym (untouched 0 last ts (joined pages) spans (recursion_from_All (λ t. 0 ≤ t → t ≤ last → ⊥) ts none))) c.share.result c.share.ensures

pub returns-then-not-any_within-clause-filled : goal.returns-then-not-any_within-clause-filled
returns-then-not-any_within-clause-filled c =
    in_other_words (λ ps. ps ≡ c.args.pages.now) AreFilled (λ ps is. subst AreFilled (sym is) c.requires.filled) c.share.result c.share.ensures
