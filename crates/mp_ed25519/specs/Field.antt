-- The field of 2 ^ 255 - 19 elements, as the numbers below that prime.
use Rattle.std.specs.Prelude.{ℕ, ◌+◌, ◌-◌, ◌*◌, ◌%◌, ◌^◌}

abbrev pub prime : ℕ
prime = 2 ^ 255 - 19

unfoldable pub add : ℕ → ℕ → ℕ
add x y = (x + y) % prime

unfoldable pub sub : ℕ → ℕ → ℕ
sub x y = (x + (prime - y % prime)) % prime

unfoldable pub mul : ℕ → ℕ → ℕ
mul x y = (x * y) % prime

unfoldable pub pow : ℕ → ℕ → ℕ
pow x n = x ^ n % prime
