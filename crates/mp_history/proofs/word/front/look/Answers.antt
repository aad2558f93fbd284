use Rattle.std.proofs.Common.{ap, subst, List}
use mathlib.Core.List.{IsPrefix}
use Rattle.mp_history.specs.Inside.Noted.{Noted, log_of}
use Rattle.mp_history.proofs.Notes.{log_of-prefix}
use Rattle.mp_history.proofs.word.front.look.Goals as goal

pub returns : goal.returns
returns g c =
    let both = c.learn.new.self.log in
    let one : IsPrefix c.first.inside.seen.log both = subst (λ (l : List Noted). IsPrefix l both) (ap (λ s. s.log) c.again-both.ensures) c.learn.ensures.2 in
    rw (← c.first.view_is, ← c.second.view_is) (record {
      log = log_of g.N.PoolName.root both;
      first = log_of-prefix g.N.PoolName.root c.first.inside.seen.log both c.first.invariant.1.1 one;
      second = log_of-prefix g.N.PoolName.root c.second.inside.seen.log both c.second.invariant.1.1 c.learn.ensures.3;
    })
