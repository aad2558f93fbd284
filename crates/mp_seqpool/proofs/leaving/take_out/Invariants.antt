use Rattle.std.proofs.Common.{take}
use Rattle.mp_seqpool.specs.Inside.Leaving.{TakesOut}
use Rattle.mp_seqpool.proofs.leaving.take_out.Given as goal

-- those with the tickets so far are out
abbrev pub invariant-loop-ticket : goal.invariant-loop-ticket
invariant-loop-ticket l = TakesOut (take l.ticket-index l.gone) l.fn.items l.items l.bytes
