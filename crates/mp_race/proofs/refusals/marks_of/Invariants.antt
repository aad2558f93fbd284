use Rattle.std.proofs.Common.{take}
use Rattle.std.specs.Prelude.{All}
use Rattle.mp_race.specs.Inside.Marks.{IsMarked}
use Rattle.mp_race.proofs.refusals.marks_of.Given as goal

-- the commands so far are marked
abbrev pub invariant-loop-entry : goal.invariant-loop-entry
invariant-loop-entry l = All (λ t. IsMarked l.marks.items t.task) (take l.entry-index l.told)
