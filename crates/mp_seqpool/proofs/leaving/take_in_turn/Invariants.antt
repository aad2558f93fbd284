use Rattle.mp_seqpool.specs.ValidatedTx.{ticketed}
use Rattle.mp_seqpool.proofs.InTurn.{AreOut}
use Rattle.mp_seqpool.proofs.leaving.take_in_turn.Given as goal

-- the last ones, as many as the index says, are out
abbrev pub invariant-loop-index : goal.invariant-loop-index
invariant-loop-index l = AreOut l.fn.overlay (ticketed l.items) l.gone l.index l.overlay
