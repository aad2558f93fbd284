use Rattle.std.proofs.Common.{ap, sym, ◌∙◌}
use Rattle.std.proofs.lemmas.List.{map_push}
use Rattle.mp_seqpool.specs.Item.{item_of, items_of}
use Rattle.mp_versions.specs.Pages.{last_ticket}
use Rattle.mp_versions.proofs.Parts.{last_by-push}
use Rattle.mp_versions.proofs.Blocks.{ticket_in}
use Rattle.mp_versions.proofs.chunk.Chunk.last_ticket.Goals as goal

pub returns-in-Some : goal.returns-in-Some
returns-in-Some c =
    let others = c.in-Some.field-0-1.now in
    sym (ap last_ticket (sym c.as_slice.ensures ∙ ap items_of c.in-Some.ensures.cases.0 ∙ map_push item_of others c.in-Some.item.now)
    ∙ last_by-push ticket_in 0 (items_of others) (item_of c.in-Some.item.now))
