-- The result of a race: one legal history that explains every answer to a worker.
use Rattle.std.specs.Prelude.{◌≡◌, ◌⊎◌, ℕ, ◌+◌, ◌<◌, ◌%◌, ◌==◌, List, [], ◌∷◌, ◌++◌, Err, if◌then◌else◌}
use Rattle.mp_rules.specs.Verifier.{Accepts}
use Rattle.mp_seqpool.specs.declared.refusal.Refusal.{Refusal}
use Rattle.mp_seqpool.specs.Command.{Command}
use Rattle.mp_seqpool.specs.Pool.{Pool}
use Rattle.mp_seqpool.specs.SlowPool.{answer}
use Rattle.mp_history.specs.Entry.{Entry}
use Rattle.mp_history.specs.Log.{Log, Begins, IsLegalLog, state_after}
use Rattle.mp_race.specs.Task.{Task, Change, Read}

-- the worker's entries
abbrev pub own : ℕ → List Entry → List Entry
own w [] = []
own w (e ∷ es) = if w == e.caller then e ∷ own w es else own w es

-- Task j goes to worker j mod the number of workers. The first task of the list is task j.
abbrev pub dealt_from : ℕ → ℕ → ℕ → List Task → List Task
dealt_from j workers w [] = []
dealt_from j workers w (t ∷ ts) =
    if j % workers == w then t ∷ dealt_from (j + 1) workers w ts else dealt_from (j + 1) workers w ts

abbrev pub dealt : ℕ → ℕ → List Task → List Task
dealt workers w ts = dealt_from 0 workers w ts

-- the entry is the worker's, for this command
pub record IsEntry (w : ℕ) (c : Command) (e : Entry) : Type 0 where
  pub by : e.caller ≡ w
  pub asked : e.command ≡ c

-- The verifier decides which signatures are good.
module _ (accepts : Accepts) where
  -- the slow pool refuses this after a prefix of the history that has exactly these entries of the worker
  pub record IsRefused (log : Log) (w : ℕ) (made : List Entry) (c : Command) : Type 0 where
    pub front : Log
    pub begins : Begins front log
    pub none_else : own w front.entries ≡ made
    pub refusal : Refusal
    pub refused : answer accepts (state_after accepts front) c ≡ Err refusal

  -- The worker goes through its tasks, from the entries that it has made before to those that it has made after. Each change is
  -- its next entry or is refused.
  abbrev pub Plays : Log → ℕ → List Entry → List Task → List Entry → Type 0
  Plays log w made [] end = made ≡ end
  Plays log w made (Read ∷ ts) end = Plays log w made ts end
  Plays log w made (Change c ∷ ts) end =
      ((e : Entry) × IsEntry w c e × Plays log w (made ++ e ∷ []) ts end) ⊎ (IsRefused log w made c × Plays log w made ts end)

  -- A history of a race of this many workers, whose pool opened with this state.
  pub record IsRace (opening : Pool) (workers : ℕ) (ts : List Task) (log : Log) : Type 0 where
    pub opens : log.opening ≡ opening
    -- each entry is by a worker, and its reply is the slow pool's after those before it
    pub legal : IsLegalLog accepts workers log
    -- the entries of a worker are those of the changes dealt to it, each once and in order, without those that are refused
    pub played : (w : ℕ) → w < workers → Plays log w [] (dealt workers w ts) (own w log.entries)
