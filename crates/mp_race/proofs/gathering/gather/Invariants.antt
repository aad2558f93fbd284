use Rattle.std.proofs.Common.{◌≡◌, true, List}
use Rattle.std.specs.Prelude.{All}
use Rattle.mp_seqpool.specs.Pool.{Pool}
use Rattle.mp_race.specs.Task.{Task}
use Rattle.mp_race.specs.Inside.Gathered.{IsBack, AreGathered}
use Rattle.mp_race.proofs.gathering.gather.Given as goal

-- the workers that have returned so far
abbrev pub invariant-loop-worker : goal.invariant-loop-worker
invariant-loop-worker g l =
    let accepts = g.N.PoolName.accepts in
    let callers = g.N.PoolName.callers in
    (opening : Pool) (ts : List Task) → l.fn.front.opening ≡ opening
    → All (IsBack accepts callers opening ts) l.fn.workers.items
    → l.gathered.is_sure ≡ true → AreGathered accepts callers opening ts l.gathered.front l.gathered.passes.items l.gathered.done.items l.gathered.refused.items
