-- The points of the curve that the code's types represent.
use Rattle.std.specs.Prelude.{◌≡◌, ◌<◌, ℕ, List, Option, Some, None, slice_index_or}
use Rattle.mp_ed25519.specs.Field.{add, sub, mul}
use Rattle.mp_ed25519.specs.Inside.Limbs.{element}
use Rattle.mp_ed25519.specs.Curve.{Point, d, joined, multiple}
use Rattle.mp_ed25519.specs.declared.point.CachedPoint.{CachedPoint}
use Rattle.mp_ed25519.specs.declared.point.CompletedPoint.{CompletedPoint}
use Rattle.mp_ed25519.specs.declared.point.ExtendedPoint.{ExtendedPoint}
use Rattle.mp_ed25519.specs.declared.point.ProjectivePoint.{ProjectivePoint}

abbrev pub point : ExtendedPoint → Point
point p = record { x = element p.x; y = element p.y; z = element p.z; t = element p.t }

abbrev pub point_of : Option ExtendedPoint → Option Point
point_of None = None
point_of (Some p) = Some (point p)

abbrev pub completed : CompletedPoint → Point
completed c = joined (element c.e) (element c.f) (element c.g) (element c.h)

abbrev pub IsProjective : ProjectivePoint → Point → Type 0
IsProjective f p = (element f.x ≡ p.x) × (element f.y ≡ p.y) × (element f.z ≡ p.z)

abbrev pub IsCached : CachedPoint → Point → Type 0
IsCached c p = (element c.sum ≡ add p.y p.x) × (element c.difference ≡ sub p.y p.x)
    × (element c.double ≡ add p.z p.z) × (element c.product ≡ mul (add d d) p.t)

-- the first n multiples of p, from 0 times p on
abbrev pub IsTable : List CachedPoint → Point → ℕ → Type 0
IsTable t p n =
    (j : ℕ) → j < n → (c : CachedPoint) → c ≡ slice_index_or t j c → IsCached c (multiple p j)
