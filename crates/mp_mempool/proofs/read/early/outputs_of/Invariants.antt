use Rattle.std.proofs.Common.{◌≡◌, length, vec_len}
use Rattle.mp_mempool.proofs.read.early.outputs_of.Given as goal

-- there is an output for each reference so far
abbrev pub invariant-loop-reference : goal.invariant-loop-reference
invariant-loop-reference l =
    goal.iterator-loop-reference.can_next l.reference-iterator
    × goal.iterator-loop-reference.is_finite l.reference-iterator
    × (vec_len l.outputs ≡ length l.yielded)
