use Rattle.std.proofs.Common.{◌≡◌, map}
use Rattle.mp_mempool.specs.Pass.{pass_of}
use Rattle.mp_mempool.proofs.opening.put_passes.Given as goal

-- the passes so far
abbrev pub invariant-loop-caller : goal.invariant-loop-caller
invariant-loop-caller g l = l.passes.items ≡ map (pass_of l.shown) l.yielded
