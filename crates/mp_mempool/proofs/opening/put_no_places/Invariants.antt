use Rattle.std.proofs.Common.{◌≡◌, replicate, None}
use Rattle.mp_mempool.proofs.opening.put_no_places.Given as goal

-- the callers so far
abbrev pub invariant-loop : goal.invariant-loop
invariant-loop l = l.places.items ≡ replicate l.counter None
