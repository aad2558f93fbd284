use Rattle.std.proofs.Common.{drop}
use Rattle.mp_ed25519.specs.Curve.{Point, combined}
use Rattle.mp_ed25519.specs.Inside.Points.{IsProjective, IsTable}
use Rattle.mp_ed25519.proofs.multiples.combined.Given as goal

abbrev pub invariant-loop-i : goal.invariant-loop-i
invariant-loop-i l = (b a : Point) → IsTable l.long b 256 → IsTable l.short a 16 →
    IsProjective l.sum (combined b a (drop l.i l.s) (drop l.i l.k))
