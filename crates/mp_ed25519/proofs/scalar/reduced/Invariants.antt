use Rattle.std.proofs.Common.{◌≡◌, ◌*◌, ◌%◌, drop}
use Rattle.mp_ed25519.specs.Ed25519.{little, order}
use Rattle.mp_ed25519.specs.Inside.Numbers.{number_of}
use Rattle.mp_ed25519.proofs.scalar.reduced.Given as goal

abbrev pub invariant-loop-i : goal.invariant-loop-i
invariant-loop-i l = number_of l.scalar.number ≡ little (drop (4 * l.i) l.bytes) % order
