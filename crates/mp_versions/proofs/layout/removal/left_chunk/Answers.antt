use Rattle.std.proofs.Common.{◌≡◌, sym, ◌∙◌, ◌≤◌}
use Rattle.std.proofs.lemmas.List.Elements.{recursion_from_All}
use Rattle.mp_seqpool.specs.Prepared.{apart}
use Rattle.mp_versions.proofs.Building.{in_other_words}
use Rattle.mp_versions.proofs.Blocks.{chunk_spans, untouched, spans_as}
use Rattle.mp_versions.proofs.layout.removal.left_chunk.Goals as goal

pub returns-then-not-any_within : goal.returns-then-not-any_within
returns-then-not-any_within c =
    let ts = c.args.tickets.now in
    let chunk = c.args.chunk.now in
    let first = c.first_ticket.result in
    let last = c.last_ticket.result in
    let none = c.if-not-any_within.ensures in
    let spans = spans_as _ first _ last chunk (sym c.first_ticket.ensures) (sym c.last_ticket.ensures) (chunk_spans chunk c.requires.rising) in
    in_other_words (λ l. l ≡ chunk) (λ l. l ≡ apart ts chunk) (λ l is. is ∙ sym (untouched first last ts chunk spans (recursion_from_All (λ t. first ≤ t → t ≤ last → ⊥) ts none))) c.share.result c.share.ensures
