use Rattle.std.proofs.Common.{◌≡◌, take}
use Rattle.std.specs.Prelude.{All}
use Rattle.mp_race.specs.Refusals.{AreInOrder}
use Rattle.mp_race.specs.Inside.Marks.{IsUnmarked}
use Rattle.mp_race.proofs.Refusing.{least_after}
use Rattle.mp_race.proofs.refusals.are_others.Given as goal

-- the refusals so far, and the least command that may come next
abbrev pub invariant-loop-refusal : goal.invariant-loop-refusal
invariant-loop-refusal l = record {
  order : AreInOrder 0 (take l.refusal-index l.refused);
  next : l.least ≡ least_after 0 (take l.refusal-index l.refused);
  unmarked : All (λ r. IsUnmarked l.marks r.task) (take l.refusal-index l.refused);
}
