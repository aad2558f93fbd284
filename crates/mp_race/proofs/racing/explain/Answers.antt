use Rattle.std.proofs.Common.{rules, ◌≡◌, ◌≤◌, List, length, sym, subst}
use Rattle.mp_history.specs.Entry.{Entry}
use Rattle.mp_race.specs.Inside.Work.{AreNumbered}
use Rattle.mp_race.specs.Inside.Ordered.{IsOrdered}
use Rattle.mp_race.specs.Inside.Gathered.{IsExplained}
use Rattle.mp_race.proofs.Explaining.{explained}
use Rattle.mp_race.proofs.racing.explain.Goals as goal

pub returns-clause-history : goal.returns-clause-history
returns-clause-history g c = λ opening ts given.
    let accepts = g.N.PoolName.accepts in
    let callers = g.N.PoolName.callers in
    let log = c.args.gathered.front in
    let ps = c.args.gathered.passes.items in
    let o = c.in_ok-ordered.ordered in
    let es : List Entry = o.entries.items in
    let is = given c.if-not-is_sure.false in
    let few : length log.entries ≤ length es = search rules in
    let number : length ps ≡ callers = search rules in
    let numbered : AreNumbered es 0 ps =
    subst (λ l. AreNumbered l 0 ps) c.deref-else-len-workers.ensures.value (subst (AreNumbered c.deref-else-len-workers.result.now 0) c.deref.ensures.value (c.all_know.ensures c.if-not-all_know.false)) in
    let ordered = subst (λ n. IsOrdered n ts log o) c.requires.number (c.in_ok-ordered.ensures.history ts log is.changes) in
    subst (λ n. IsExplained accepts opening n ts o c.args.gathered.refused.items) (sym c.requires.number)
    (explained accepts callers opening ts log ps c.args.gathered.done.items c.args.gathered.refused.items o is ordered few number numbered)
