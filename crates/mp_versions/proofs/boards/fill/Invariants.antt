use Rattle.std.proofs.Common.{◌≡◌, ◌+◌, length}
use Rattle.mp_versions.proofs.boards.fill.Given as goal

-- each round adds a place
abbrev pub invariant-loop : goal.invariant-loop
invariant-loop g l = length l.places.items ≡ length l.fn.places.items + l.counter
