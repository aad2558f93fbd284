-- The progress of a worker.
use Rattle.std.specs.Prelude.{◌≡◌, ◌⊎◌, ℕ, ◌+◌, ◌<◌, List, [], ◌∷◌, ◌++◌, length, take, Option, None, Some, IfSome, All, slice_get}
use Rattle.mp_rules.specs.Verifier.{Accepts}
use Rattle.mp_seqpool.specs.declared.refusal.Refusal.{Refusal}
use Rattle.mp_seqpool.specs.Command.{Command}
use Rattle.mp_seqpool.specs.Pool.{Pool}
use Rattle.mp_history.specs.Entry.{Entry}
use Rattle.mp_history.specs.Log.{Log, last_of}
use Rattle.mp_mempool.specs.Pass.{Pass}
use Rattle.mp_mempool.specs.Seen.{IsSeen}
use Rattle.mp_mempool.specs.Answers.{IsEntered, IsRefusedAt}
use Rattle.mp_race.specs.declared.told.Done.{Done}
use Rattle.mp_race.specs.declared.told.Refused.{Refused}
use Rattle.mp_race.specs.Task.{Task, Change, Read}
use Rattle.mp_race.specs.Race.{own, dealt, Plays}
use Rattle.mp_race.specs.Refusals.{IsRefusal}

-- up to the last place, including it
abbrev pub upto : Option ℕ → List Entry → List Entry
upto None es = []
upto (Some k) es = take (k + 1) es

-- what the caller made, as its pass knows it
abbrev pub made : Pass → List Entry
made p = own p.caller (upto p.last p.front.entries)

-- The change is the one with this number in the scenario, and its entry is at its place.
pub record IsDone (ts : List Task) (log : Log) (d : Done) : Type 0 where
  pub asked : slice_get ts d.task ≡ Some (Change d.receipt.entry.command)
  pub stands : slice_get log.entries d.receipt.place ≡ Some d.receipt.entry

-- an unused pass of a pool with this opening
pub record IsUnused (opening : Pool) (p : Pass) : Type 0 where
  pub opens : p.front.opening ≡ opening
  pub last : p.last ≡ None

-- the record of a refusal of the command with this number
abbrev pub refused_at : ℕ → Pass → Refused
refused_at n p = record { worker = p.caller; task = n; entries = length p.front.entries }

module _ (accepts : Accepts) (callers : ℕ) where
  -- A worker commits the change with this number.
  pub record Enters (p : Pass) (ds : List Done) (n : ℕ) (c : Command) (q : Pass) (es : List Done) : Type 0 where
    pub change : Done
    pub entered : IsEntered accepts callers p c change.receipt.place change.receipt.entry q
    pub number : change.task ≡ n
    pub more : es ≡ ds ++ change ∷ []

  -- The change with this number is refused.
  pub record IsTurnedDown (p : Pass) (rs : List Refused) (n : ℕ) (c : Command) (q : Pass) (ss : List Refused) : Type 0 where
    pub refusal : Refusal
    pub refused : IsRefusedAt accepts callers p c refusal q
    pub more : ss ≡ rs ++ refused_at n q ∷ []

  -- A worker does the task with this number: its pass, its changes and its refusals before and after.
  abbrev pub Does : Pass → List Done → List Refused → ℕ → Task → Pass → List Done → List Refused → Type 0
  Does p ds rs n Read q es ss = IsSeen accepts callers p q × (es ≡ ds) × (ss ≡ rs)
  Does p ds rs n (Change c) q es ss =
      (Enters p ds n c q es × (ss ≡ rs)) ⊎ (IsTurnedDown p rs n c q ss × (es ≡ ds))

-- The worker has done those of these tasks that are dealt to it.
pub record HasDone (accepts : Accepts) (workers : ℕ) (opening : Pool) (ts : List Task) (p : Pass) : Type 0 where
  pub opens : p.front.opening ≡ opening
  pub within : IfSome p.last (λ k. k < length p.front.entries)
  pub plays : Plays accepts p.front p.caller [] (dealt workers p.caller ts) (made p)

-- the same, with the changes that it has made and those that were refused
pub record HasMade (accepts : Accepts) (workers : ℕ) (opening : Pool) (ts : List Task) (p : Pass) (ds : List Done) (rs : List Refused) : Type 0 where
  pub done : HasDone accepts workers opening ts p
  pub changes : All (IsDone ts p.front) ds
  pub refusals : All (IsRefusal accepts workers ts p.front) rs

-- Each of these passes belongs to the caller with its number, from k on, and knows that caller's last entry.
abbrev pub AreNumbered : List Entry → ℕ → List Pass → Type 0
AreNumbered es k [] = Unit {0}
AreNumbered es k (p ∷ ps) = (p.caller ≡ k) × (last_of k es ≡ p.last) × AreNumbered es (k + 1) ps
