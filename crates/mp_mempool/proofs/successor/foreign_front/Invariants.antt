use Rattle.std.proofs.Common.{◌≡◌, take}
use Rattle.std.specs.Prelude.{All}
use Rattle.mp_mempool.specs.Successor.{IsKnownTo}
use Rattle.mp_mempool.proofs.successor.foreign_front.Given as goal

-- the passes so far know all entries of their callers
abbrev pub invariant-loop-pass : goal.invariant-loop-pass
invariant-loop-pass g l = (l.locked ≡ l.fn.locked) × All (IsKnownTo l.fn.locked.log) (take l.pass-index l.passes)
