use Rattle.std.proofs.Common.{ap, sym, ◌∙◌, [], ◌∷◌}
use Rattle.std.proofs.lemmas.List.{map-append}
use Rattle.mp_seqpool.specs.Item.{item_of, items_of}
use Rattle.mp_seqpool.specs.Reading.{moved}
use Rattle.mp_seqpool.proofs.Moving.{moved-append}
use Rattle.mp_versions.proofs.peer_reader.move_over.Goals as goal

pub returns-in-Some : goal.returns-in-Some
returns-in-Some c =
    let others = c.in-Some.field-0-1.now in
    let item = c.in-Some.item.now in
    sym (ap (moved c.args.cursor) (sym c.as_slice.ensures ∙ ap items_of c.in-Some.ensures.cases.0 ∙ map-append item_of others (item ∷ []))
    ∙ moved-append c.args.cursor (items_of others) (item_of item ∷ []))
