-- The first number that passes a test, one step further.
use Rattle.std.proofs.Common.{◌≡◌, ℕ, suc, ◌+◌, ◌-◌, ◌<◌, Bool, false, cond, ap, ◌∙◌, arith}
use Rattle.std.specs.Prelude.{Some}
use Rattle.std.specs.List.{position_from, range_with_len}

pub position_from-miss : (p : ℕ → Bool) (i n : ℕ) → i < n → p i ≡ false → position_from p i (range_with_len i (n - i)) ≡ position_from p (i + 1) (range_with_len (i + 1) (n - (i + 1)))
position_from-miss p i n lt misses =
    let one : n - i ≡ suc (n - (i + 1)) = omega arith in
    ap (λ m. position_from p i (range_with_len i m)) one ∙ ap (λ b. cond b (Some i) (position_from p (i + 1) (range_with_len (i + 1) (n - (i + 1))))) misses

pub less_zero : (n : ℕ) → n - 0 ≡ n
less_zero n = omega arith
