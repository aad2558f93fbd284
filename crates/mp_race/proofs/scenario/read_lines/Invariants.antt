use Rattle.std.proofs.Common.{◌≡◌, ◌+◌, ◌≤◌, ◌^◌, length}
use Rattle.mp_text.specs.Lines.{lines_of}
use Rattle.mp_race.specs.Scenario.{reading}
use Rattle.mp_race.proofs.scenario.read_lines.Given as goal

-- reading the rest from here gives what reading all lines gives, and each line before had a byte
abbrev pub invariant-loop-line : goal.invariant-loop-line
invariant-loop-line l =
    (reading l.fn.session 1 (lines_of l.text) ≡ reading l.session l.number (lines_of l.rest))
    × (l.number + length l.rest ≤ 2 ^ 24 + 1)

abbrev pub decreases-loop-line : goal.decreases-loop-line
decreases-loop-line l = length l.rest
