-- What a caller has of the pool.
use Rattle.std.specs.Prelude.{◌≡◌, ℕ, Option, IfSome, IsSomeAnd, slice_get}
use Rattle.mp_history.specs.Log.{Log}
use Rattle.mp_history.specs.Caller.{Caller}

pub record Pass : Type 0 where
  -- the caller's number
  pub caller : ℕ
  -- the place of the last entry that it made
  pub last : Option ℕ
  -- the history that it has seen
  pub front : Log

-- the pass of a caller that has seen this history
abbrev pub pass_of : Log → Caller → Pass
pass_of log c = record { caller = c.number; last = c.last; front = log }

-- the history has an entry of the caller at this place
abbrev pub IsEntryOf : ℕ → Log → ℕ → Type 0
IsEntryOf caller log place = IsSomeAnd (slice_get log.entries place) (λ e. e.caller ≡ caller)

-- the last entry that it made is its own, and is in what it has seen
abbrev pub IsOwn : Pass → Type 0
IsOwn p = IfSome p.last (IsEntryOf p.caller p.front)
