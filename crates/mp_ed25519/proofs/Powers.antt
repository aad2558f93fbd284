-- Powers of elements.
use Rattle.std.proofs.Common.{◌≡◌, ℕ, ◌+◌, ◌*◌, ◌%◌, ◌^◌, arith, ap, ◌∙◌, sym}
use Rattle.std.proofs.Math.Nat.{pow-suc, pow-zero}
use Rattle.std.proofs.lemmas.Nat.{mul-mod, pow-add}
use Rattle.mp_ed25519.specs.Field.{prime, mul, pow}
use Rattle.mp_ed25519.specs.Inside.Limbs.{element, value_of}
use Rattle.mp_ed25519.specs.declared.field_element.FieldElement.{FieldElement}

pub mul-pow : (z a b : ℕ) → mul (pow z a) (pow z b) ≡ pow z (a + b)
unfolding mul pow
mul-pow z a b = sym (mul-mod (z ^ a) (z ^ b) prime) ∙ ap (λ n. n % prime) (sym (pow-add z a b))

-- the product of the power a and the power b
pub times : (x y z a b : ℕ) → x ≡ pow z a → y ≡ pow z b → mul x y ≡ pow z (a + b)
times x y z a b e f = ap (λ n. mul n y) e ∙ ap (mul (pow z a)) f ∙ mul-pow z a b

pub first_power : (x : FieldElement) → element x ≡ pow (element x) 1
unfolding element pow
first_power x =
    let v = value_of x in
    let e : (v % prime) ^ 1 ≡ v % prime =
    omega (arith, pow-suc (v % prime) 0, ap (λ m. m * (v % prime)) (pow-zero (v % prime))) in
    let f : v % prime % prime ≡ v % prime = omega arith in
    sym (ap (λ n. n % prime) e ∙ f)

-- one more squaring
pub squared_more : (x y z e i : ℕ) → y ≡ pow z (e * 2 ^ i) → x ≡ mul y y → x ≡ pow z (e * 2 ^ (i + 1))
squared_more x y z e i h g =
    let two : e * 2 ^ i + e * 2 ^ i ≡ e * 2 ^ (i + 1) = omega (arith, ap (λ n. e * n) (pow-add 2 i 1)) in
    g ∙ times y y z (e * 2 ^ i) (e * 2 ^ i) h h ∙ ap (pow z) two
