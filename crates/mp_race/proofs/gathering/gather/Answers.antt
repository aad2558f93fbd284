use Rattle.std.proofs.Common.{◌++◌, sym, ap, subst, ◌∙◌}
use Rattle.std.specs.Prelude.{All}
use Rattle.std.specs.Vec.Iter.{into_iter_items}
use Rattle.mp_race.specs.Inside.Gathered.{IsBack}
use Rattle.mp_race.proofs.Ordered.{given, each}
use Rattle.mp_race.proofs.gathering.gather.Goals as goal

pub loop-worker-preserved : goal.loop-worker-preserved
loop-worker-preserved g c = λ opening ts opens all sure.
    let accepts = g.N.PoolName.accepts in
    let callers = g.N.PoolName.callers in
    let start = c.into_iter-worker-iterator in
    let stands = sym start.ensures.into_iter_gives.0 ∙ given start.result c.loop-worker.yielded c.loop-worker.worker-iterator c.loop-worker.yielded_by
    ∙ ap (λ l. c.loop-worker.yielded ++ l) c.in-Some.ensures.steps.0 in
    let here = each (IsBack accepts callers opening ts) c.loop-worker.yielded c.in-Some.worker (into_iter_items c.next.new.self) (subst (All (IsBack accepts callers opening ts)) stands all) in
    let back = subst (IsBack accepts callers opening ts) c.in_ok-back.was here in
    c.in_ok-gathered.ensures.gathered opening ts (c.loop-worker.invariant opening ts opens all (c.in_ok-gathered.ensures.sure sure)) (back (c.in_ok-gathered.ensures.worker sure))
