use Rattle.std.proofs.Common.{◌≡◌, length, take}
use Rattle.mp_race.specs.History.{AreEntriesOf, next_of}
use Rattle.mp_race.specs.Inside.Task.{tasks_of}
use Rattle.mp_race.proofs.auditing.entries_of.Given as goal

-- the records so far are the entries
abbrev pub invariant-loop-place : goal.invariant-loop-place
invariant-loop-place l =
    AreEntriesOf l.history.workers (tasks_of l.tasks) (take l.place l.history.told.items) l.entries.items
    × (length l.entries.items ≡ l.place)
    × (l.next ≡ next_of (take l.place l.history.told.items))
