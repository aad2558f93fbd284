-- The value of digits.
use Rattle.std.proofs.Common.{◌≡◌, ℕ, ◌+◌, ◌-◌, ◌*◌, ◌^◌, ◌<◌, ◌≤◌, List, [], ◌∷◌, Some, None, true, length, drop, get_or, arith, ◌∙◌, ap, subst, nat_lt}
use Rattle.std.proofs.Math.Nat.{pow-suc, add-mul, mul_assoc, mul_comm, le-mul_of_pos_right, one-le-pow}
use Rattle.std.proofs.lemmas.Option.{cond_some}
use Rattle.std.proofs.lemmas.List.{drop_more}
use Rattle.std.proofs.lemmas.Bool.Decides.{nat_tests}
use Rattle.mp_text.specs.Numbers.{value_of_digits, if_below}

-- what a number and further digits denote
abbrev pub completed : ℕ → List ℕ → ℕ
completed n digits = n * 10 ^ length digits + value_of_digits digits

-- t is a power of ten
regroup : (n x t v : ℕ) → n * (t * 10) + (x * t + v) ≡ (n * 10 + x) * t + v
regroup n x t v = omega (arith, add-mul (n * 10) x t, mul_assoc n 10 t, mul_comm 10 t)

pub completed-next : (n digit : ℕ) (digits : List ℕ) → completed n (digit ∷ digits) ≡ completed (n * 10 + (digit - 48)) digits
completed-next n digit digits = rw (pow-suc 10 (length digits)) (regroup n (digit - 48) (10 ^ length digits) (value_of_digits digits))

pub completed-ge : (n : ℕ) (digits : List ℕ) → n ≤ completed n digits
completed-ge n digits = omega (arith, le-mul_of_pos_right n (one-le-pow (length digits) 10 (omega arith)))

pub completed-drop : (n place : ℕ) (digits : List ℕ) → place < length digits → completed n (drop place digits) ≡ completed (n * 10 + (get_or digits place 0 - 48)) (drop (place + 1) digits)
completed-drop n place digits within = ap (completed n) (drop_more digits place 0 within) ∙ completed-next n (get_or digits place 0) (drop (place + 1) digits)

-- a number below the bound is returned as it is
pub if_below-some : (bound v n : ℕ) → if_below bound v ≡ Some n → (v ≡ n) × (n < bound)
if_below-some bound v n some =
    let both = cond_some (nat_lt v bound) v n some in
    let within : nat_lt v bound ≡ true = both.0 in
    let below : v < bound = grind (arith, nat_tests) in
    (both.1, subst (λ m. m < bound) both.1 below)

-- if a value reaches the bound, so does each larger one
pub if_below-none : (bound v w : ℕ) → if_below bound v ≡ None → v ≤ w → if_below bound w ≡ None
if_below-none bound v w none le = grind (arith, nat_tests)
