use Rattle.std.proofs.Common.{◌+◌, ◌<◌, ◌≤◌, length}
use Rattle.mp_text.specs.Lines.{lines_of}
use Rattle.mp_replay.proofs.Steps.{Progress}
use Rattle.mp_replay.proofs.replaying.replay.Given as goal

-- the steps so far are right; each line has at least one byte, its line feed
abbrev pub invariant-loop-line : goal.invariant-loop-line
invariant-loop-line l = record {
  so_far : Progress l.fn.conversation (lines_of l.text) l.conversation l.entries l.number (lines_of l.rest);
  few : l.entries < l.number;
  within : l.number + length l.rest ≤ length l.text + 1;
}

abbrev pub decreases-loop-line : goal.decreases-loop-line
decreases-loop-line l = length l.rest
