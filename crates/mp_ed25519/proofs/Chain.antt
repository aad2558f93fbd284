-- The sum with which a signature is compared.
use Rattle.std.proofs.Common.{◌≡◌, ℕ, ◌+◌, ◌*◌, ◌/◌, ◌%◌, ◌^◌, ◌<◌, ◌&&◌, List, [], ◌∷◌, length, arith, zero, suc, refl, subst, ap, ◌∙◌, sym, true, not, nat_lt, Option, Some, None}
use Rattle.std.proofs.Math.Nat.{pow-suc}
use Rattle.std.proofs.lemmas.Bool.{and_parts, eqb-true, false≢true, ltb-true}
use Rattle.mp_ed25519.specs.Chain.{IsSum, CombinedIsSum, GoodIsSum, nothing, one_b, one_a, both, double}
use Rattle.mp_ed25519.specs.Curve.{Point, combined, multiple, negated, shifted_sum}
use Rattle.mp_ed25519.specs.Ed25519.{accepts_halves, base, bytes_of, challenge, decoded, encoded, equation_holds, has_small_order, little, order}

-- the same sum, with its two numbers written in another way
same_sum : (b a : Point) (s k t l : ℕ) (p : Point) → s ≡ t → k ≡ l → IsSum b a s k p → IsSum b a t l p
same_sum b a s k t l p e f h =
    subst (λ (n : ℕ). IsSum b a t n p) f (subst (λ (n : ℕ). IsSum b a n k p) e h)

multiple-b : (b a : Point) (n : ℕ) → IsSum b a n 0 (multiple b n)
unfolding multiple
multiple-b b a zero = nothing
multiple-b b a (suc n) = same_sum b a (n + 1) (0 + 0) (suc n) 0 _ (omega arith) refl (both (multiple-b b a n) one_b)

multiple-a : (b a : Point) (n : ℕ) → IsSum b a 0 n (multiple a n)
unfolding multiple
multiple-a b a zero = nothing
multiple-a b a (suc n) = same_sum b a (0 + 0) (n + 1) 0 (suc n) _ refl (omega arith) (both (multiple-a b a n) one_a)

shifted_sum-sum : (b a p : Point) (s k n : ℕ) → IsSum b a s k p → IsSum b a (16 * s) (16 * k + n) (shifted_sum p a n)
unfolding shifted_sum
shifted_sum-sum b a p s k n h =
    same_sum b a _ _ (16 * s) (16 * k + n) _ (omega arith) (omega arith)
    (both (double (double (double (double h)))) (multiple-a b a n))

-- the same for bytes
bytes-sum : (b a : Point) (ss ks : List ℕ) → length ss ≡ length ks → IsSum b a (little ss) (little ks) (combined b a ss ks)
unfolding combined little
bytes-sum b a [] [] e = nothing
bytes-sum b a [] (k ∷ ks) e = absurd (omega arith)
bytes-sum b a (s ∷ ss) [] e = absurd (omega arith)
bytes-sum b a (s ∷ ss) (k ∷ ks) e =
    let shorter : length ss ≡ length ks = omega arith in
    let high = shifted_sum-sum b a _ (little ss) (little ks) (k / 16) (bytes-sum b a ss ks shorter) in
    let low = shifted_sum-sum b a _ (16 * little ss) (16 * little ks + k / 16) (k % 16) high in
    same_sum b a (16 * (16 * little ss) + s) (16 * (16 * little ks + k / 16) + k % 16 + 0)
    (s + 256 * little ss) (k + 256 * little ks) _ (omega arith) (omega arith) (both low (multiple-b b a s))

length-bytes_of : (n k : ℕ) → length (bytes_of n k) ≡ n
unfolding bytes_of
length-bytes_of zero k = refl
length-bytes_of (suc n) k = ap suc (length-bytes_of n (k / 256))

little-bytes_of : (n k : ℕ) → k < 256 ^ n → little (bytes_of n k) ≡ k
unfolding bytes_of little
little-bytes_of zero k h = omega arith
little-bytes_of (suc n) k h =
    let less : k / 256 < 256 ^ n = omega (arith, h, pow-suc 256 n) in
    omega (arith, little-bytes_of n (k / 256) less)

pub combined-sum : CombinedIsSum
combined-sum b a s k size small =
    let same : length s ≡ length (bytes_of 32 k) = size ∙ sym (length-bytes_of 32 k) in
    same_sum b a _ _ (little s) k _ refl (little-bytes_of 32 k small) (bytes-sum b a s (bytes_of 32 k) same)

holds-sum : (key : Option Point) (s : List ℕ) (k r : ℕ) → length s ≡ 32 → k < 2 ^ 256 → equation_holds key s k r ≡ true →
    (a p : Point) × (key ≡ Some a) × (encoded p ≡ r) × IsSum base (negated a) (little s) k p
unfolding equation_holds
holds-sum None s k r size small e = absurd (false≢true e)
holds-sum (Some a) s k r size small e =
    (a, combined base (negated a) s (bytes_of 32 k), refl, eqb-true _ _ e, combined-sum base (negated a) s k size small)

pub good-sum : GoodIsSum
unfolding accepts_halves
good-sum key message r s size good =
    let k = challenge r key message in
    let small : k < 2 ^ 256 = omega arith in
    let fit = nat_lt (little s) order in
    let large_r = not (has_small_order (little r)) in
    let large_key = not (has_small_order (little key)) in
    let parts = and_parts (fit && large_r && large_key) (equation_holds (decoded (little key)) s k (little r)) good in
    let first = and_parts (fit && large_r) large_key parts.0 in
    let fits = and_parts fit large_r first.0 in
    let found = holds-sum (decoded (little key)) s k (little r) size small parts.1 in
    (ltb-true _ _ fits.0, found.0, found.1, found.2, found.3, found.4)
