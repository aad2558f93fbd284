-- Scenarios of races, and how their lines are read.
use Rattle.std.specs.Prelude.{ℕ, ◌+◌, List, [], ◌∷◌, ◌++◌, Option, None, Some, option_map, option_and_then, Result, Ok, Err}
use Rattle.mp_tx.specs.Ledger.{LedgerState}
use Rattle.mp_lines.specs.declared.query.Query.{Query}
use Rattle.mp_lines.specs.declared.query.Query.TheVariants.{Snapshot}
use Rattle.mp_lines.specs.Lines.{Line, line_of}
use Rattle.mp_mempool.specs.declared.config.Config.{Config}
use Rattle.mp_session.specs.declared.settings.Settings.{Settings}
use Rattle.mp_session.specs.Beginning.{Beginning, opening_ledger}
use Rattle.mp_session.specs.declared.session.Session.{Session}
use Rattle.mp_session.specs.declared.session.Stage.{Stage}
use Rattle.mp_session.specs.declared.session.Stage.TheVariants.{Before, Open}
use Rattle.mp_session.specs.Settings.{limit_of, last_of}
use Rattle.mp_session.specs.Request as requests
use Rattle.mp_session.specs.Session.{new_session}
use Rattle.mp_session.specs.Session as sessions
use Rattle.mp_race.specs.Task.{Task, Change, Read}

pub record Scenario : Type 0 where
  pub config : Config
  -- the ledger state with which the pool opens
  pub ledger : LedgerState
  -- the tasks, which the workers get in turn
  pub tasks : List Task

-- before the first line; the salt of a scenario is public
abbrev pub empty_session : Session Scenario
empty_session = new_session 0

-- no task yet
abbrev pub begun : Settings → Beginning → Scenario
begun g b = record { config = record { limit = limit_of g; last = last_of g }; ledger = opening_ledger g b; tasks = [] }

-- what the pool opens with is fixed from the first task on
abbrev pub scenario_at : Settings → Stage Scenario → Scenario
scenario_at g (Before b) = begun g b
scenario_at g (Open s) = s

abbrev pub with_task : Scenario → Task → Scenario
with_task s task = record s { tasks = s.tasks ++ task ∷ [] }

abbrev pub put_task : Session Scenario → Task → Session Scenario
put_task s task = record s { stage = Open (with_task (scenario_at s.settings s.stage) task) }

-- the only reads of a race are snapshots
abbrev pub read_asked : Query → Option Task
read_asked Snapshot = Some Read
read_asked other = None

abbrev pub task_asked : requests.Request → Option Task
task_asked (requests.Change c) = Some (Change c)
task_asked (requests.Try l) = None
task_asked (requests.Read query) = read_asked query

abbrev pub put_if : Session Scenario → Option requests.Request → Option (Session Scenario)
put_if s None = Some s
put_if s (Some request) = option_map (put_task s) (task_asked request)

abbrev pub take : Session Scenario → Line → Option (Session Scenario)
take s line = option_and_then (λ r. put_if r.0 r.1) (sessions.take s line)

unfoldable pub line_step : Session Scenario → List ℕ → Option (Session Scenario)
line_step s line = option_and_then (take s) (line_of s.names line)

-- A bad line ends the reading.
abbrev pub follow : ℕ → (Session Scenario → Result (Session Scenario) ℕ) → Option (Session Scenario) → Result (Session Scenario) ℕ
follow n others None = Err n
follow n others (Some s) = others s

-- what is read from the lines, or the number of the first bad one, counted from n
abbrev pub reading : Session Scenario → ℕ → List (List ℕ) → Result (Session Scenario) ℕ
reading s n [] = Ok s
reading s n (line ∷ lines) = follow n (λ t. reading t (n + 1) lines) (line_step s line)

-- the scenario of everything that was read
abbrev pub scenario_of : Session Scenario → Scenario
scenario_of s = scenario_at s.settings s.stage
