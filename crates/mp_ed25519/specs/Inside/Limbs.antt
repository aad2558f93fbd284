-- Field elements as five limbs of 51 bits each, lowest first.
use Rattle.std.specs.Prelude.{ℕ, ◌+◌, ◌*◌, ◌%◌, ◌^◌, ◌≤◌, Option, Some, None}
use Rattle.mp_ed25519.specs.Field.{prime}
use Rattle.mp_ed25519.specs.declared.field_element.FieldElement.{FieldElement}
use Rattle.mp_ed25519.specs.declared.wide_element.WideElement.{WideElement}

-- the number that five limbs denote
abbrev pub value : ℕ → ℕ → ℕ → ℕ → ℕ → ℕ
value a b c d e = a + 2 ^ 51 * b + 2 ^ 102 * c + 2 ^ 153 * d + 2 ^ 204 * e

abbrev pub value_of : FieldElement → ℕ
value_of f = value f.l0 f.l1 f.l2 f.l3 f.l4

abbrev pub wide_value : WideElement → ℕ
wide_value w = value w.l0 w.l1 w.l2 w.l3 w.l4

unfoldable pub element : FieldElement → ℕ
element f = value_of f % prime

abbrev pub element_of : Option FieldElement → Option ℕ
element_of None = None
element_of (Some f) = Some (element f)

-- the greatest value of a limb after the carries
abbrev pub tight : ℕ
tight = 2 ^ 51 + 2 ^ 13

-- each limb is at most this number
abbrev pub AreWithin : ℕ → FieldElement → Type 0
AreWithin n f = (f.l0 ≤ n) × (f.l1 ≤ n) × (f.l2 ≤ n) × (f.l3 ≤ n) × (f.l4 ≤ n)

abbrev pub IsTight : Option FieldElement → Type 0
IsTight None = Unit {0}
IsTight (Some f) = AreWithin tight f
