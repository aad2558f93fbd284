-- The changes of a race in the order of their places.
use Rattle.std.specs.Prelude.{◌≡◌, ℕ, List, length, take}
use Rattle.mp_history.specs.Log.{Log}
use Rattle.mp_race.specs.declared.told.Told.{Told}
use Rattle.mp_race.specs.declared.told.Done.{Done}
use Rattle.mp_race.specs.declared.ordering.Ordered.{Ordered}
use Rattle.mp_race.specs.Task.{Task}
use Rattle.mp_race.specs.History.{AreEntriesOf, next_of}

-- the record of a change
abbrev pub told_of : Done → Told
told_of d = record {
  place = d.receipt.place;
  worker = d.receipt.entry.caller;
  task = d.task;
  reply = d.receipt.entry.reply;
}

-- The entries are the first of the history, and the records are of these, one by one.
pub record IsOrdered (workers : ℕ) (ts : List Task) (log : Log) (o : Ordered) : Type 0 where
  pub first : o.entries.items ≡ take (length o.entries.items) log.entries
  pub told : AreEntriesOf workers ts o.told.items o.entries.items
  pub next : o.next ≡ next_of o.told.items
