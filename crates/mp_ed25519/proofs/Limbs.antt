-- What products have at 2 ^ 255 and above.
use Rattle.std.proofs.Common.{◌≡◌, ℕ, ◌+◌, ◌*◌, ◌%◌, ◌^◌, arith}
use Rattle.mp_ed25519.specs.Field.{prime}

-- the part of a product from 2 ^ 255 on
abbrev pub high : (a1 a2 a3 a4 b1 b2 b3 b4 : ℕ) → ℕ
high a1 a2 a3 a4 b1 b2 b3 b4 =
    (a4 * b1 + a3 * b2 + a2 * b3 + a1 * b4)
    + 2 ^ 51 * (a4 * b2 + a3 * b3 + a2 * b4)
    + 2 ^ 102 * (a4 * b3 + a3 * b4)
    + 2 ^ 153 * (a4 * b4)

-- numbers that differ by a multiple of the prime are one element
pub same_element : (x y k : ℕ) → x + prime * k ≡ y → x % prime ≡ y % prime
same_element x y k h = omega arith
