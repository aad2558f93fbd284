-- What an addition chain adds up, and that a good signature satisfies the standard's equation.
use Rattle.std.specs.Prelude.{◌≡◌, ℕ, ◌+◌, ◌^◌, ◌<◌, true, List, length, Some}
use Rattle.mp_ed25519.specs.Curve.{Point, combined, negated, neutral, sum, twice}
use Rattle.mp_ed25519.specs.Ed25519.{accepts_halves, base, bytes_of, challenge, decoded, encoded, little, order}

-- the point is s times b and k times a, added up in some order
pub data IsSum : Point → Point → ℕ → ℕ → Point → Type 0 where
  nothing : {b a : Point} → IsSum b a 0 0 neutral
  one_b : {b a : Point} → IsSum b a 1 0 b
  one_a : {b a : Point} → IsSum b a 0 1 a
  both : {b a : Point} {s k t l : ℕ} {p q : Point} →
      IsSum b a s k p → IsSum b a t l q → IsSum b a (s + t) (k + l) (sum p q)
  double : {b a : Point} {s k : ℕ} {p : Point} →
      IsSum b a s k p → IsSum b a (s + s) (k + k) (twice p)

-- the windowed multiplication adds up [s] b + [k] a
abbrev pub CombinedIsSum : Type 0
CombinedIsSum = (b a : Point) (s : List ℕ) (k : ℕ) → length s ≡ 32 → k < 2 ^ 256 →
    IsSum b a (little s) k (combined b a s (bytes_of 32 k))

-- for a good signature, R encodes [S] base - [k] a, where a is the key's point and S is below the order
abbrev pub GoodIsSum : Type 0
GoodIsSum = (key message r s : List ℕ) → length s ≡ 32 → accepts_halves key message r s ≡ true →
    (little s < order)
    × (a p : Point) × (decoded (little key) ≡ Some a) × (encoded p ≡ little r)
    × IsSum base (negated a) (little s) (challenge r key message) p
