use Rattle.std.proofs.Common.{◌+◌, ◌≤◌, ◌^◌, length}
use Rattle.mp_text.specs.Lines.{lines_of}
use Rattle.mp_session.proofs.Progress.{Progress}
use Rattle.mp_session.proofs.running.answer_from.Given as goal

-- the lines before the rest are executed, and each had at least one byte
abbrev pub invariant-loop-line : goal.invariant-loop-line
invariant-loop-line g l =
    Progress l.fn.scene.signatures (g.W.Write.contents l.fn.writer) (g.W.Write.contents l.writer) (lines_of l.text) (lines_of l.rest) l.scene l.number
    × (l.number + length l.rest ≤ 2 ^ 24 + 1)

abbrev pub decreases-loop-line : goal.decreases-loop-line
decreases-loop-line g l = length l.rest
