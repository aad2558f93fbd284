-- The curve -x² + y² = 1 + d x² y² and its addition (RFC 8032, 5.1.4).
use Rattle.std.specs.Prelude.{ℕ, zero, suc, ◌/◌, ◌%◌, List, [], ◌∷◌}
use Rattle.mp_ed25519.specs.Field.{add, sub, mul}

-- the point (x / z, y / z) in extended coordinates, where x y = z t
pub record Point : Type 0 where
  pub x : ℕ
  pub y : ℕ
  pub z : ℕ
  pub t : ℕ

-- -121665 / 121666
abbrev pub d : ℕ
d = 37095705934669439343138083508754565189542113879843219016388785533085940283555

-- the point of the standard's E, F, G and H
unfoldable pub joined : ℕ → ℕ → ℕ → ℕ → Point
joined e f g h = record { x = mul e f; y = mul g h; z = mul f g; t = mul e h }

unfoldable pub sum : Point → Point → Point
sum p q =
    let a = mul (sub p.y p.x) (sub q.y q.x) in
    let b = mul (add p.y p.x) (add q.y q.x) in
    let c = mul p.t (mul (add d d) q.t) in
    let k = mul p.z (add q.z q.z) in
    joined (sub b a) (sub k c) (add k c) (add b a)

unfoldable pub twice : Point → Point
twice p =
    let a = mul p.x p.x in
    let b = mul p.y p.y in
    let c = add (mul p.z p.z) (mul p.z p.z) in
    let h = add a b in
    let g = sub a b in
    joined (sub h (mul (add p.x p.y) (add p.x p.y))) (add c g) g h

abbrev pub neutral : Point
neutral = record { x = 0; y = 1; z = 1; t = 0 }

abbrev pub negated : Point → Point
negated p = record { x = sub 0 p.x; y = p.y; z = p.z; t = sub 0 p.t }

unfoldable pub multiple : Point → ℕ → Point
multiple p zero = neutral
multiple p (suc n) = sum (multiple p n) p

-- 16 times the first point plus n times the second
unfoldable pub shifted_sum : Point → Point → ℕ → Point
shifted_sum p q n = sum (twice (twice (twice (twice p)))) (multiple q n)

-- [s] b + [k] a for two numbers of equally many bytes, lowest first: it starts with the highest bytes, and takes k's in halves
unfoldable pub combined : Point → Point → List ℕ → List ℕ → Point
combined b a [] _ = neutral
combined b a (s ∷ ss) [] = neutral
combined b a (s ∷ ss) (k ∷ ks) =
    sum (shifted_sum (shifted_sum (combined b a ss ks) a (k / 16)) a (k % 16)) (multiple b s)
