use Rattle.std.proofs.Common.{take}
use Rattle.mp_race.specs.Inside.Work.{AreNumbered}
use Rattle.mp_race.proofs.ordering.all_know.Given as goal

-- the passes so far
abbrev pub invariant-loop-number : goal.invariant-loop-number
invariant-loop-number g l = AreNumbered l.entries 0 (take l.number l.passes)
