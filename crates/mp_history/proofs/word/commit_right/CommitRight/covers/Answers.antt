use Rattle.std.proofs.Common.{ap, sym, subst, ◌∙◌, List}
use mathlib.Core.List.{IsPrefix}
use Rattle.mp_history.specs.Inside.Noted.{Noted, notes_of}
use Rattle.mp_history.proofs.Notes.{notes_of-prefix}
use Rattle.mp_history.proofs.Prefixes.{prefix_trans}
use Rattle.mp_history.proofs.Turns.{covered}
use Rattle.mp_history.proofs.Steps.{covers_moves}
use Rattle.mp_history.proofs.word.commit_right.CommitRight.covers.Goals as goal

pub compare_exchange-requires : goal.compare_exchange-requires
compare_exchange-requires g c =
    let own = c.self.invariant.0 in
    let book = sym (ap (λ w. w.book) own) in
    let later = ap (λ s. s.book) c.again-later.ensures ∙ c.self.invariant.1.0 in
    let offer = c.plain-offer.ensures in (
      ap (λ w. w.tracked) own,
      c.learn.ensures.0 ∙ (later ∙ book),
      c.self.invariant.1.1.0 ∙ book,
      offer.0,
      rw (ap (λ w. w.key) own, c.self.invariant.1.1.1.turn, offer.3) (covers_moves c.learn.new.self.log _ c.plain-offer.result.ask),
    )

pub returns-clause-covers : goal.returns-clause-covers
returns-clause-covers g c =
    let root = g.N.PoolName.root in
    let mine : List Noted = c.self.inside.seen.log in
    let all : List Noted = c.compare_exchange.new.seen.log in
    let done = c.compare_exchange.ensures in
    let learned = c.learn.ensures in
    let begun : IsPrefix mine c.learn.new.self.log = subst (λ (l : List Noted). IsPrefix l c.learn.new.self.log) (ap (λ s. s.log) c.again-later.ensures) learned.2 in
    let same = done.7.1 root (notes_of root mine) (notes_of-prefix root mine all (prefix_trans mine c.learn.new.self.log all begun done.6)) (sym (ap (λ p. p.key) c.self.invariant.1.1.1.turn)) in
    rw (← c.front.view_is) (covered root mine c.front.inside.seen.log all same c.front.invariant.1.1 (prefix_trans c.front.inside.seen.log c.learn.new.self.log all learned.3 done.6))
