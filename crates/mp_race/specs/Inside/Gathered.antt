-- What all workers return.
use Rattle.std.specs.Prelude.{◌≡◌, ℕ, true, List, All, Result, Ok, Err}
use Rattle.mp_memory.specs.declared.no_memory.NoMemory.{NoMemory}
use Rattle.mp_rules.specs.Verifier.{Accepts}
use Rattle.mp_seqpool.specs.Pool.{Pool}
use Rattle.mp_history.specs.Log.{Log, Begins, IsLegalLog}
use Rattle.mp_race.specs.declared.told.Done.{Done}
use Rattle.mp_race.specs.declared.told.Refused.{Refused}
use Rattle.mp_race.specs.declared.ordering.Ordered.{Ordered}
use Rattle.mp_mempool.specs.Pass.{Pass}
use Rattle.mp_race.specs.Task.{Task}
use Rattle.mp_race.specs.Race.{IsRace}
use Rattle.mp_race.specs.History.{AreEntriesOf}
use Rattle.mp_race.specs.Refusals.{IsRefusal}
use Rattle.mp_race.specs.declared.worker.Worker.{Worker}
use Rattle.mp_race.specs.Inside.Work.{IsDone, HasDone, HasMade}

module _ (accepts : Accepts) (workers : ℕ) (opening : Pool) (ts : List Task) where
  -- A worker that was sure of its entries has done its tasks and made these changes.
  abbrev pub IsBack : {N : Type 0} → Result (Worker N) NoMemory → Type 0
  IsBack (Ok w) = w.is_sure ≡ true → HasMade accepts workers opening ts w.pass w.done.items w.refused.items
  IsBack (Err error) = Unit {0}

  -- Each of these workers has done its tasks and has seen a prefix of this history. The history has the changes, and the others
  -- are refused at prefixes of it.
  pub record AreGathered (log : Log) (ps : List Pass) (ds : List Done) (rs : List Refused) : Type 0 where
    pub opens : log.opening ≡ opening
    pub legal : IsLegalLog accepts workers log
    pub done : All (HasDone accepts workers opening ts) ps
    pub begin : All (λ p. Begins p.front log) ps
    pub changes : All (IsDone ts log) ds
    pub refusals : All (IsRefusal accepts workers ts log) rs

-- The race has a history. These are its entries, each with its record, and these changes are refused.
pub record IsExplained (accepts : Accepts) (opening : Pool) (workers : ℕ) (ts : List Task) (o : Ordered) (rs : List Refused) : Type 0 where
  pub log : Log
  pub entries : log.entries ≡ o.entries.items
  pub race : IsRace accepts opening workers ts log
  pub told : AreEntriesOf workers ts o.told.items o.entries.items
  pub refusals : All (IsRefusal accepts workers ts log) rs
