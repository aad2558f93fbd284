use Rattle.std.proofs.Common.{◌≡◌, ◌++◌, take}
use Rattle.mp_race.specs.HistoryText.{lines_text}
use Rattle.mp_race.proofs.history.put_lines.Given as goal

-- the lines so far
abbrev pub invariant-loop-entry : goal.invariant-loop-entry
invariant-loop-entry l = l.text.items ≡ l.fn.text.items ++ lines_text (take l.entry-index l.told)
