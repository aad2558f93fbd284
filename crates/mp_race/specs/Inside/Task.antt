-- A task without the shares that hold its parts.
use Rattle.std.specs.Prelude.{List, map}
use Rattle.mp_seqpool.specs.Inside.Command.{command_of}
use Rattle.mp_race.specs.declared.task.Task.{Task}
use Rattle.mp_race.specs.declared.task.Task.TheVariants as tasks
use Rattle.mp_race.specs.Task as told

abbrev pub task_of : Task → told.Task
task_of (tasks.Change c) = told.Change (command_of c)
task_of tasks.Read = told.Read

abbrev pub tasks_of : List Task → List told.Task
tasks_of ts = map task_of ts
