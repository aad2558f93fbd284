use Rattle.mp_text.proofs.LineInput.{IsKept}
use Rattle.mp_text.proofs.line_input.read_line.Given as goal

-- the line has been kept so far
abbrev pub invariant-loop : goal.invariant-loop
invariant-loop g l = IsKept l.limit (g.R.Read.remaining l.fn.reader) (g.R.Read.remaining l.reader) l.line.items
