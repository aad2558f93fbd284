use Rattle.mp_mempool.proofs.Numbered.{AreFirst}
use Rattle.mp_mempool.proofs.successor.bad_place.Given as goal

-- the passes so far are those of the first callers
abbrev pub invariant-loop-place : goal.invariant-loop-place
invariant-loop-place g l = AreFirst l.callers l.passes l.place
