-- How a history is read.
use Rattle.std.specs.Prelude.{◌≡◌, ℕ, List, Result, Ok, Err}
use Rattle.mp_race.specs.declared.history.RecordedHistory.{RecordedHistory}
use Rattle.mp_race.specs.declared.fault.RaceFault.{RaceFault}
use Rattle.mp_race.specs.declared.fault.RaceFault.TheVariants.{NoMemory, BadLine, ReadFault, WriteFault, Audit, MissingEntry}
use Rattle.mp_race.specs.HistoryText.{history_text, IsFaultOfText}

-- the history with this text, or why the text is no history; a read may fail
abbrev pub IsRead : List ℕ → Result RecordedHistory RaceFault → Type 0
IsRead bytes (Ok h) = bytes ≡ history_text h.workers h.told.items
IsRead bytes (Err ReadFault) = Unit {0}
IsRead bytes (Err NoMemory) = Unit {0}
IsRead bytes (Err WriteFault) = ⊥
IsRead bytes (Err (BadLine line)) = IsFaultOfText bytes (BadLine line)
IsRead bytes (Err (Audit fault)) = ⊥
IsRead bytes (Err (MissingEntry place)) = IsFaultOfText bytes (MissingEntry place)
