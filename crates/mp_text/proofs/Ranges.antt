-- Tests of ranges.
use Rattle.std.proofs.Common.{ℕ, ◌≤◌, Decides, arith, nat_le}
use Rattle.std.specs.Int.{is_in_range, IsInRange}
use Rattle.std.proofs.lemmas.Bool.Decides.{Decides-and, nat_tests}

pub at_most-Decides : (a b : ℕ) → Decides (nat_le a b) (a ≤ b)
at_most-Decides a b = (λ e. grind (arith, nat_tests), λ h. grind (arith, nat_tests))

pub range-Decides : (low high b : ℕ) → Decides (is_in_range low high b) (IsInRange low high b)
range-Decides low high b = Decides-and _ _ (at_most-Decides low b) (at_most-Decides b high)
