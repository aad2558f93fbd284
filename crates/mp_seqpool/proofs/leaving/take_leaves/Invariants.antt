use Rattle.std.proofs.Common.{take}
use Rattle.mp_seqpool.specs.ValidatedTx.{ticketed}
use Rattle.mp_seqpool.specs.Inside.NamedLeaves.{Lacks}
use Rattle.mp_seqpool.proofs.leaving.take_leaves.Given as goal

-- those with the tickets so far are out
abbrev pub invariant-loop-ticket : goal.invariant-loop-ticket
invariant-loop-ticket l = Lacks l.fn.overlay (ticketed l.items) (take l.ticket-index l.gone) l.overlay
