-- How a run ends, and what it has written by then.
use Rattle.std.specs.Prelude.{◌≡◌, ℕ, ◌≤◌, ◌^◌, List, length, take, Option, None, Some, Result, Ok, Err}
use Rattle.std.specs.Io.KnownBytes.{Appends, Keeps}
use Rattle.mp_text.specs.Lines.{lines_of}
use Rattle.mp_text.specs.Output.{AppendsFront}
use Rattle.mp_names.specs.declared.fault.LineFault.{LineFault}
use Rattle.mp_names.specs.declared.fault.LineFault.TheVariants as line
use Rattle.mp_names.specs.declared.reason.Reason.{Reason}
use Rattle.mp_session.specs.declared.fault.RunFault.{RunFault}
use Rattle.mp_session.specs.declared.fault.RunFault.TheVariants.{NoMemory, BadLine, ReadFault, WriteFault}
use Rattle.mp_session.specs.declared.stop.RunStop.{RunStop}
use Rattle.mp_session.specs.declared.stop.RunStop.TheVariants as stop
use Rattle.mp_signatures.specs.declared.scheme.Scheme.{Scheme}
use Rattle.mp_session.specs.Scene.{empty_scene, outcome}

-- the text of the lines before the first bad one, and the number of that one, from 1, where the pool accepts the scheme's signatures
abbrev pub outcome_of : Scheme → List (List ℕ) → List ℕ × Option ℕ
outcome_of scheme lines = outcome (empty_scene scheme) 1 lines

-- the bad line that ends it, if there is one
abbrev pub bad_line_of : RunStop → Option (ℕ × Reason)
bad_line_of (stop.BadLine n reason) = Some (n, reason)
bad_line_of other = None

-- the fault of a run, given the end of the answers to its text
abbrev pub fault_of : RunStop → RunFault
fault_of stop.NoMemory = NoMemory
fault_of (stop.BadLine n reason) = BadLine n
fault_of stop.Write = WriteFault

-- why the line with this number isn't answered
abbrev pub stop_of : ℕ → LineFault → RunStop
stop_of n line.NoMemory = stop.NoMemory
stop_of n (line.Bad reason) = stop.BadLine n reason

-- at most 2^24 bytes were executed
abbrev pub AreDone : List ℕ → Type 0
AreDone bytes = length bytes ≤ 2 ^ 24

-- the answers to these lines, none of them bad
abbrev pub Answers : Scheme → Option (List ℕ) → Option (List ℕ) → List (List ℕ) → Type 0
Answers scheme old new lines = Appends old new (outcome_of scheme lines).0 × ((outcome_of scheme lines).1 ≡ None)

-- in order of the cases: all answers; those before the first bad line; nothing; a proper prefix of the answers; the
-- answers to some first lines, none of them bad
abbrev pub Ended : Scheme → List ℕ → Option (List ℕ) → Option (List ℕ) → Result (Unit {0}) RunFault → Type 0
Ended scheme bytes old new (Ok u) = AreDone bytes × Answers scheme old new (lines_of bytes)
Ended scheme bytes old new (Err (BadLine n)) =
    AreDone bytes × Appends old new (outcome_of scheme (lines_of bytes)).0 × ((outcome_of scheme (lines_of bytes)).1 ≡ Some n)
Ended scheme bytes old new (Err ReadFault) = Keeps old new
Ended scheme bytes old new (Err WriteFault) = AreDone bytes × AppendsFront old new (outcome_of scheme (lines_of bytes)).0
Ended scheme bytes old new (Err NoMemory) = (k : ℕ) × Answers scheme old new (take k (lines_of bytes))

-- the end of the run, given the end of the answers to its text
abbrev pub ended_so : Result (Unit {0}) RunStop → Result (Unit {0}) RunFault
ended_so (Ok u) = Ok u
ended_so (Err stop) = Err (fault_of stop)

-- the same for the answers to a text, which also have the reason of a bad line
abbrev pub AreAnswers : Scheme → List ℕ → Option (List ℕ) → Option (List ℕ) → Result (Unit {0}) RunStop → Type 0
AreAnswers scheme bytes old new result = Ended scheme bytes old new (ended_so result)
