-- What settings may be.
use Rattle.std.specs.Prelude.{ℕ, ◌≤◌, ◌^◌, List, Option}
use Rattle.mp_names.specs.Numbers.{number_in}

-- a block has 1 to 2^39 bytes
abbrev pub block_bytes_of : List ℕ → Option ℕ
block_bytes_of word = number_in 1 (2 ^ 39) word

-- a pool makes 1 to 2^32 changes
abbrev pub IsLimit : ℕ → Type 0
IsLimit n = (1 ≤ n) × (n ≤ 2 ^ 32)

abbrev pub limit_of : List ℕ → Option ℕ
limit_of word = number_in 1 (2 ^ 32) word
