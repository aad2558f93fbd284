use Rattle.std.proofs.Common.{◌≡◌, ◌≤◌, count_by, take}
use Rattle.mp_race.specs.Report.{is_read}
use Rattle.mp_race.specs.Inside.Task.{tasks_of}
use Rattle.mp_race.proofs.report.count_reads.Given as goal

-- the snapshots so far
abbrev pub invariant-loop-task : goal.invariant-loop-task
invariant-loop-task l = (l.count ≡ count_by is_read (tasks_of (take l.task-index l.tasks))) × (l.count ≤ l.task-index)
