-- When a signature is good: RFC 8032, 5.1.7, without the cofactor and with libsodium's refusals.
use Rattle.std.specs.List.{list_any}
use Rattle.std.specs.Prelude.{ℕ, zero, suc, ◌+◌, ◌-◌, ◌*◌, ◌/◌, ◌%◌, ◌^◌, ◌==◌, ◌&&◌, Bool, false, nat_lt, not, List, [], ◌∷◌, ◌++◌, take, drop, Option, Some, None, if◌then◌else◌}
use Rattle.sha2.specs.Sha512.{sha512}
use Rattle.mp_ed25519.specs.Field.{prime, add, sub, mul, pow}
use Rattle.mp_ed25519.specs.Curve.{Point, combined, d, negated}

-- the order of the base point
abbrev pub order : ℕ
order = 2 ^ 252 + 27742317777372353535851937790883648493

abbrev pub base : Point
base = record {
  x = 15112221349535400772501151409588531511454012693041857206046113283949847762202;
  y = 46316835694926478169428394003475163141307993866256225615783033603165251855960;
  z = 1;
  t = 46827403850823179245072216630277197565144205554125654976674165829533817101731;
}

-- the number that these bytes encode, lowest first
unfoldable pub little : List ℕ → ℕ
little [] = 0
little (b ∷ bs) = b + 256 * little bs

-- this many bytes of a number, lowest first
unfoldable pub bytes_of : ℕ → ℕ → List ℕ
bytes_of zero n = []
bytes_of (suc k) n = n % 256 ∷ bytes_of k (n / 256)

-- a square root of -1
abbrev pub root_of_minus_one : ℕ
root_of_minus_one = 19681161376707505956807079304988542015446066515923890162744021073123829784752

-- a square root of u / v, if there is one (5.1.3)
unfoldable pub root_of : ℕ → ℕ → Option ℕ
root_of u v =
    let v3 = mul (mul v v) v in
    let r = mul (mul u v3) (pow (mul u (mul (mul v3 v3) v)) (2 ^ 252 - 3)) in
    let check = mul v (mul r r) in
    if check == u then Some r
    else if add check u == 0 then Some (mul r root_of_minus_one)
    else None

-- the root or its negative: the one whose lowest bit is the sign; 0 with sign 1 is refused
unfoldable pub signed : ℕ → Option ℕ → Option ℕ
signed sign None = None
signed sign (Some r) =
    if r % 2 == sign then Some r else if r == 0 then None else Some (sub 0 r)

unfoldable pub point_at : ℕ → Option ℕ → Option Point
point_at y None = None
point_at y (Some x) = Some (record { x = x; y = y; z = 1; t = mul x y })

-- the point that 256 bits encode: the lowest 255 are its y, the highest is the lowest bit of its x
unfoldable pub decoded : ℕ → Option Point
decoded n =
    let y = n % 2 ^ 255 in
    let u = sub (mul y y) 1 in
    let v = add (mul d (mul y y)) 1 in
    if nat_lt y prime then point_at y (signed (n / 2 ^ 255) (root_of u v)) else None

unfoldable pub encoded : Point → ℕ
encoded q =
    let i = pow q.z (prime - 2) in
    mul q.y i + 2 ^ 255 * (mul q.x i % 2)

-- the encodings of points of small order, without their highest bit
abbrev pub small_orders : List ℕ
small_orders =
    0 ∷ 1 ∷ (prime - 1) ∷ prime ∷ (prime + 1)
    ∷ 2707385501144840649318225287225658788936804267575313519463743609750303402022
    ∷ 55188659117513257062467267217118295137698188065244968500265048394206261417927
    ∷ []

unfoldable pub has_small_order : ℕ → Bool
has_small_order n = list_any (λ y. y == n % 2 ^ 255) small_orders

-- whether [s] base - [k] a is encoded as r
unfoldable pub equation_holds : Option Point → List ℕ → ℕ → ℕ → Bool
equation_holds None s k r = false
equation_holds (Some a) s k r = encoded (combined base (negated a) s (bytes_of 32 k)) == r

-- k, the hash of R, key and message
abbrev pub challenge : List ℕ → List ℕ → List ℕ → ℕ
challenge r key message = little (sha512 ((r ++ key) ++ message)) % order

-- whether the signature with the halves R and S is good
unfoldable pub accepts_halves : List ℕ → List ℕ → List ℕ → List ℕ → Bool
accepts_halves key message r s =
    nat_lt (little s) order
    && not (has_small_order (little r)) && not (has_small_order (little key))
    && equation_holds (decoded (little key)) s (challenge r key message) (little r)

-- whether the signature of the message by the key is good
abbrev pub accepts : List ℕ → List ℕ → List ℕ → Bool
accepts key message signature = accepts_halves key message (take 32 signature) (drop 32 signature)
