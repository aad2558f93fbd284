use Rattle.std.proofs.Common.{◌≡◌, ◌∷◌, ◌++◌, [], refl, ap, sym, ◌∙◌}
use Rattle.logbook.specs.Pages.{nib, may_write}
use Rattle.mp_history.specs.Inside.Noted.{Noted, notes_of, right_after}
use Rattle.mp_history.proofs.Steps.{commits_moves}
use Rattle.mp_history.proofs.Turns.{made_as, right-later}
use Rattle.mp_history.proofs.word.commit_right.CommitRight.enter.Goals as goal

pub compare_exchange-self-inside-requires : goal.compare_exchange-self-inside-requires
compare_exchange-self-inside-requires g c =
    let root = g.N.PoolName.root in
    let seen = c.self.inside.seen.log in
    let head = c.requires.head in
    let book = sym (ap (λ w. w.book) head) in
    let right = c.self.invariant.1.1.1 in
    let offer = c.plain-offer.ensures in (
      ap (λ w. w.tracked) head,
      c.self.invariant.1.0 ∙ book,
      c.self.invariant.1.1.0 ∙ book,
      offer.0,
      rw (offer.1, ap (λ w. w.key) head, right.turn, offer.3)
          (commits_moves seen root (right_after root (notes_of root seen)) c.self.inside.count c.tracked-word.new.pen.nib.key c.args.entry.now right.opened refl right.counted _ refl),
    )

pub invariant_of-self : goal.invariant_of-self
invariant_of-self g c =
    let root = g.N.PoolName.root in
    let log = c.self.inside.seen.log in
    let later = c.compare_exchange-self-inside.new.seen.log in
    let n : Noted = c.plain-offer.result.ask in
    let done = c.compare_exchange-self-inside.ensures in
    let is : notes_of root later ≡ notes_of root log ++ n ∷ [] = rw (ap (λ w. w.key) c.requires.head) at done.7 in
    let cell = c.add_cell-next.ensures in
    let word = c.tracked-word.ensures in
    let turn = made_as c.tracked-word.new.pen.nib c.add_cell-next.result.nib 0 word.2 cell.right in (
      c.self.invariant.0,
      (done.0 ∙ c.self.invariant.1.0, (word.1 ∙ (cell.book ∙ c.self.invariant.1.0), right-later root log later n c.args.entry.now c.self.inside.count c.self.inside.pen.nib c.tracked-word.new.pen.nib c.self.invariant.1.1.1 is (ap (λ m. m.entries) c.plain-offer.ensures.1) (turn ∙ ap (λ k. nib may_write k 0) (sym (ap (λ m. m.next) c.plain-offer.ensures.1))))),
    )
