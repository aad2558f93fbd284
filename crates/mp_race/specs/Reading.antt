-- Reading the text of a scenario.
use Rattle.std.specs.Prelude.{◌≡◌, ℕ, ◌≤◌, ◌^◌, List, length, Option, None, Some, Result, Ok, Err}
use Rattle.mp_text.specs.Lines.{lines_of}
use Rattle.mp_names.specs.declared.reason.Reason.{Reason}
use Rattle.mp_session.specs.declared.session.Session.{Session}
use Rattle.mp_race.specs.declared.fault.RaceFault.{RaceFault}
use Rattle.mp_race.specs.declared.fault.RaceFault.TheVariants.{NoMemory, BadLine, ReadFault, WriteFault, Audit, MissingEntry}
use Rattle.mp_race.specs.declared.stop.RaceStop.{RaceStop}
use Rattle.mp_race.specs.declared.stop.RaceStop.TheVariants as stop
use Rattle.mp_race.specs.Scenario.{Scenario, empty_session, reading, scenario_of}

abbrev pub scenario_in : Result (Session Scenario) ℕ → Result Scenario ℕ
scenario_in (Ok s) = Ok (scenario_of s)
scenario_in (Err n) = Err n

-- the scenario of the lines, or the number of the first bad one, from 1
abbrev pub scenario_from : List (List ℕ) → Result Scenario ℕ
scenario_from lines = scenario_in (reading empty_session 1 lines)

-- the fault that is reported if a text can't be read
abbrev pub fault_of : RaceStop → RaceFault
fault_of stop.NoMemory = NoMemory
fault_of (stop.BadLine n reason) = BadLine n

abbrev pub bad_line_of : RaceStop → Option (ℕ × Reason)
bad_line_of stop.NoMemory = None
bad_line_of (stop.BadLine n reason) = Some (n, reason)

-- the bad line is the first one; any allocation may fail
abbrev pub IsStopOf : {X : Type 0} → Result X ℕ → RaceStop → Type 0
IsStopOf r stop.NoMemory = Unit {0}
IsStopOf r (stop.BadLine n reason) = r ≡ Err n

-- at most 2^24 bytes are read
abbrev pub AreRead : List ℕ → Result Scenario RaceFault → Type 0
AreRead bytes (Ok s) = (length bytes ≤ 2 ^ 24) × (scenario_from (lines_of bytes) ≡ Ok s)
AreRead bytes (Err (BadLine n)) = (length bytes ≤ 2 ^ 24) × (scenario_from (lines_of bytes) ≡ Err n)
AreRead bytes (Err ReadFault) = Unit {0}
AreRead bytes (Err NoMemory) = Unit {0}
AreRead bytes (Err WriteFault) = ⊥
AreRead bytes (Err (Audit fault)) = ⊥
AreRead bytes (Err (MissingEntry place)) = ⊥
