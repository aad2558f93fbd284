-- A caller's part of a pool's history.
use Rattle.std.specs.Prelude.{ℕ, List, map, Option, None}
use Rattle.std.specs.List.{range_with_len}

pub record Caller : Type 0 where
  -- its number
  pub number : ℕ
  -- the place of its last entry
  pub last : Option ℕ

-- a caller that hasn't made an entry
abbrev pub new_caller : ℕ → Caller
new_caller number = record { number = number; last = None }

-- one for each number below the number of callers, in order
abbrev pub new_callers : ℕ → List Caller
new_callers callers = map new_caller (range_with_len 0 callers)
