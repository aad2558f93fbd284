use Rattle.std.proofs.Common.{◌≡◌, ◌≤◌, ◌++◌, length}
use Rattle.std.specs.Prelude.{All}
use Rattle.mp_race.specs.HistoryText.{lines_text, IsTellable}
use Rattle.mp_race.proofs.history.read_lines.Given as goal

-- the lines before the rest are those of the entries so far
abbrev pub invariant-loop-rest : goal.invariant-loop-rest
invariant-loop-rest l = record {
  reads : l.text ≡ lines_text l.told.items ++ l.rest;
  tellable : All IsTellable l.told.items;
  within : length l.told.items ≤ l.entries;
}

abbrev pub decreases-loop-rest : goal.decreases-loop-rest
decreases-loop-rest l = length l.rest
