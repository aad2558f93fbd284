-- The text of a report.
use Rattle.std.specs.Prelude.{ℕ, List, [], ◌∷◌, ◌++◌, codes, Option, Result, Ok, Err}
use Rattle.std.specs.Io.KnownBytes.{Appends, Keeps}
use Rattle.mp_text.specs.Output.{AppendsFront}
use Rattle.mp_answers.specs.AnswerText.{number_text}
use Rattle.mp_race.specs.declared.fault.RaceFault.{RaceFault}
use Rattle.mp_race.specs.declared.fault.RaceFault.TheVariants.{NoMemory, BadLine, ReadFault, WriteFault, Audit, MissingEntry}
use Rattle.mp_race.specs.declared.report.Report.{Report}

-- the text so far, then a word and a number
abbrev pub and_then : List ℕ → List ℕ → ℕ → List ℕ
and_then text word n = text ++ (word ++ number_text n)

abbrev pub changes_text : Report → List ℕ
changes_text r = and_then (and_then (and_then [] (codes "race") r.workers) (codes " accepted") r.accepted) (codes " refused") r.refused

abbrev pub numbers_text : Report → List ℕ
numbers_text r = and_then (and_then (and_then (changes_text r) (codes " removes") r.removes) (codes " syncs") r.syncs) (codes " reads") r.reads

-- a line of numbers, then the line that the audit found the history legal
abbrev pub report_text : Report → List ℕ
report_text r = and_then (and_then (numbers_text r) (codes " entries") r.entries) (codes " last") r.last ++ (10 ∷ codes "audit legal" ++ 10 ∷ [])

-- the whole text, a prefix of it, or nothing
abbrev pub IsWritten : Report → Option (List ℕ) → Option (List ℕ) → Result (Unit {0}) RaceFault → Type 0
IsWritten r old new (Ok u) = Appends old new (report_text r)
IsWritten r old new (Err WriteFault) = AppendsFront old new (report_text r)
IsWritten r old new (Err NoMemory) = Keeps old new
IsWritten r old new (Err (BadLine n)) = ⊥
IsWritten r old new (Err ReadFault) = ⊥
IsWritten r old new (Err (Audit fault)) = ⊥
IsWritten r old new (Err (MissingEntry place)) = ⊥
