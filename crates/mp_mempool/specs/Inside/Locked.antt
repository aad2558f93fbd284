-- The invariant of what the lock guards.
use Rattle.std.specs.Prelude.{◌≡◌, ℕ, ◌<◌, List, length, Option, None, slice_index_or}
use Rattle.mp_rules.specs.Verifier.{Accepts}
use Rattle.mp_seqpool.specs.Pool.{Pool}
use Rattle.mp_history.specs.Entry.{Entry}
use Rattle.mp_history.specs.Log.{Log, IsLegalLog, last_of, state_after}

-- for each caller, the place of its last entry
pub record ArePlaces (callers : ℕ) (entries : List Entry) (places : List (Option ℕ)) : Type 0 where
  pub count : length places ≡ callers
  pub each : (caller : ℕ) → caller < callers → slice_index_or places caller None ≡ last_of caller entries

-- the history is legal, and everything else is what it leads to
pub record IsAt (accepts : Accepts) (callers : ℕ) (log : Log) (pool : Pool) (newest : Log) (places : List (Option ℕ)) : Type 0 where
  pub legal : IsLegalLog accepts callers log
  pub state : pool ≡ state_after accepts log
  pub shown : newest ≡ log
  pub last : ArePlaces callers log.entries places
