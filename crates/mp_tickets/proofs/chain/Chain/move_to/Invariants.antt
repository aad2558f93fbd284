use Rattle.std.proofs.Common.{length}
use Rattle.mp_tickets.proofs.Moved.{Moves}
use Rattle.mp_tickets.proofs.chain.Chain.move_to.Given as goal

abbrev pub invariant-loop-at : goal.invariant-loop-at
invariant-loop-at g l = Moves l.fn.to.nodes.cells l.fn.self.nodes.cells l.nodes.cells l.at l.to

abbrev pub decreases-loop-at : goal.decreases-loop-at
decreases-loop-at g l = length l.nodes.cells
