-- What the curve's constants are (RFC 8032, 5.1).
use Rattle.std.specs.Prelude.{◌≡◌, ◌%◌}
use Rattle.mp_ed25519.specs.Field.{add, sub, mul}
use Rattle.mp_ed25519.specs.Curve.{d}
use Rattle.mp_ed25519.specs.Ed25519.{base, root_of_minus_one}

-- d is -121665 / 121666; the base point is on the curve, its y is 4 / 5 and its x is even
abbrev pub ConstantsAreRight : Type 0
ConstantsAreRight =
    (mul 121666 d ≡ sub 0 121665) × (mul root_of_minus_one root_of_minus_one ≡ sub 0 1)
    × (mul 5 base.y ≡ 4) × (base.x % 2 ≡ 0) × (base.z ≡ 1) × (base.t ≡ mul base.x base.y)
    × (sub (mul base.y base.y) (mul base.x base.x) ≡ add 1 (mul d (mul base.t base.t)))
