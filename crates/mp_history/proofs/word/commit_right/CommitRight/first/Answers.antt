use Rattle.std.proofs.Common.{◌≡◌, ap, sym, ◌∙◌}
use Rattle.logbook.specs.Pages.{nib, may_write}
use Rattle.mp_seqpool.specs.Config.{renewed}
use Rattle.mp_history.proofs.Steps.{opens_moves}
use Rattle.mp_history.proofs.Turns.{made}
use Rattle.mp_history.proofs.word.commit_right.CommitRight.first.Goals as goal

pub compare_exchange-requires : goal.compare_exchange-requires
compare_exchange-requires g c =
    let own = c.name.invariant.0 in
    let book = sym (ap (λ w. w.book) own) in
    let head = c.tracked-head.ensures in
    let p = c.name.inside.pen.nib.key in
    let turn : c.tracked-head.new.pen.nib ≡ nib may_write p 0 = head.2 ∙ made c.name.inside.pen.nib 0 c.name.invariant.1.1 in
    let offer = c.plain-offer.ensures in (
      ap (λ w. w.tracked) own,
      book,
      head.1 ∙ (c.name.invariant.1.0 ∙ book),
      offer.0,
      rw (ap (λ w. w.key) own, offer.1, turn, offer.3) (opens_moves c.name.inside.seen.log p c.tracked-word.new.pen.nib.key (renewed c.args.limit c.args.pool.now.pool)),
    )
