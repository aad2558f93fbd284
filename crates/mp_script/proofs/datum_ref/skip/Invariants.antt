use Rattle.std.proofs.Common.{List, ℕ, length, ◌≤◌}
use Rattle.mp_script.specs.Inside.DatumRef.{IsRun}
use Rattle.mp_script.proofs.datum_ref.skip.Given as goal

-- the end of the run is the end of the remaining run
abbrev pub invariant-loop-left : goal.invariant-loop-left
invariant-loop-left l = record { run : (end : List ℕ) → IsRun l.bytes l.fn.count end → IsRun l.rest l.left end; shorter : length l.rest ≤ length l.bytes }

abbrev pub decreases-loop-left : goal.decreases-loop-left
decreases-loop-left l = length l.rest
