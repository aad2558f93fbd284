use Rattle.std.proofs.Common.{ap, sym, ◌∙◌}
use Rattle.mp_history.proofs.Steps.{adds_moves}
use Rattle.mp_history.proofs.word.new_name.add_cell.Goals as goal

pub compare_exchange-requires : goal.compare_exchange-requires
compare_exchange-requires c =
    let h = c.requires in
    let later = c.again-later.ensures in
    let offer = c.plain-offer.ensures in
    let pen = c.no_pen-pen.ensures in
    let book = ap (λ s. s.book) later ∙ sym (ap (λ w. w.book) h) in (
      ap (λ w. w.tracked) h,
      book,
      pen.0 ∙ book,
      offer.0,
      rw (ap (λ w. w.key) h, pen.1, offer.3) (adds_moves c.again-later.result.log c.plain-offer.result.ask),
    )
