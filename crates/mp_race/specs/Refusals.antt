-- The refused changes of a race.
use Rattle.std.specs.Prelude.{◌≡◌, ◌≢◌, ℕ, ◌+◌, ◌≤◌, ◌%◌, List, [], ◌∷◌, length, take, slice_get, All, Some, Err}
use Rattle.mp_rules.specs.Verifier.{Accepts}
use Rattle.mp_seqpool.specs.declared.refusal.Refusal.{Refusal}
use Rattle.mp_seqpool.specs.Command.{Command}
use Rattle.mp_seqpool.specs.SlowPool.{answer}
use Rattle.mp_history.specs.Log.{Log, pool_of}
use Rattle.mp_race.specs.declared.told.Refused.{Refused}
use Rattle.mp_race.specs.declared.told.Told.{Told}
use Rattle.mp_race.specs.Task.{Task, Change}

-- It is a change of the scenario that is dealt to the worker, and the slow pool refuses it after this many entries of the
-- history.
pub record IsRefusal (accepts : Accepts) (workers : ℕ) (ts : List Task) (log : Log) (r : Refused) : Type 0 where
  pub command : Command
  pub asked : slice_get ts r.task ≡ Some (Change command)
  pub dealt : r.task % workers ≡ r.worker
  pub within : r.entries ≤ length log.entries
  pub refusal : Refusal
  pub refused : answer accepts (pool_of accepts log.opening (take r.entries log.entries)) command ≡ Err refusal

-- their commands are strictly increasing, from `least` on
abbrev pub AreInOrder : ℕ → List Refused → Type 0
AreInOrder least [] = Unit {0}
AreInOrder least (r ∷ rs) = (least ≤ r.task) × AreInOrder (r.task + 1) rs

-- its command has no entry
abbrev pub IsUntold : List Told → Refused → Type 0
IsUntold told r = All (λ t. t.task ≢ r.task) told
