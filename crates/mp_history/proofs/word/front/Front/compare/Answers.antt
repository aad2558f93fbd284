use Rattle.std.proofs.Common.{ap, subst, List}
use mathlib.Core.List.{IsPrefix}
use Rattle.mp_history.specs.Inside.Noted.{Noted, log_of}
use Rattle.mp_history.proofs.Notes.{log_of-prefix, shorter_begins}
use Rattle.mp_history.proofs.word.front.Front.compare.Goals as goal

pub returns-clause-this : goal.returns-clause-this
returns-clause-this g c =
    let root = g.N.PoolName.root in
    let both = c.learn.new.self.log in
    let one : IsPrefix c.self.inside.seen.log both = subst (λ (l : List Noted). IsPrefix l both) (ap (λ s. s.log) c.again-both.ensures) c.learn.ensures.2 in
    rw (← c.self.view_is, ← c.other.view_is) (shorter_begins (log_of root c.self.inside.seen.log) (log_of root c.other.inside.seen.log) (log_of root both)
    (log_of-prefix root c.self.inside.seen.log both c.self.invariant.1.1 one) (log_of-prefix root c.other.inside.seen.log both c.other.invariant.1.1 c.learn.ensures.3))

pub returns-clause-that : goal.returns-clause-that
returns-clause-that g c =
    let root = g.N.PoolName.root in
    let both = c.learn.new.self.log in
    let one : IsPrefix c.self.inside.seen.log both = subst (λ (l : List Noted). IsPrefix l both) (ap (λ s. s.log) c.again-both.ensures) c.learn.ensures.2 in
    rw (← c.self.view_is, ← c.other.view_is) (shorter_begins (log_of root c.other.inside.seen.log) (log_of root c.self.inside.seen.log) (log_of root both)
    (log_of-prefix root c.other.inside.seen.log both c.other.invariant.1.1 c.learn.ensures.3) (log_of-prefix root c.self.inside.seen.log both c.self.invariant.1.1 one))
