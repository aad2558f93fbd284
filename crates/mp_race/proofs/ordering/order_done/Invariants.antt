use Rattle.std.proofs.Common.{List}
use Rattle.std.specs.Prelude.{All}
use Rattle.mp_history.specs.Log.{Log}
use Rattle.mp_race.specs.Task.{Task}
use Rattle.mp_race.specs.Inside.Work.{IsDone}
use Rattle.mp_race.specs.Inside.Ordered.{IsOrdered}
use Rattle.mp_race.proofs.ordering.order_done.Given as goal

-- the changes so far are the first of each history that has all of them
abbrev pub invariant-loop-change : goal.invariant-loop-change
invariant-loop-change l = (ts : List Task) (log : Log) → All (IsDone ts log) l.fn.done.items → IsOrdered l.workers ts log l.ordered
