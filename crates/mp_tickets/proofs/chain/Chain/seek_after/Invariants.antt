use Rattle.std.proofs.Common.{length}
use Rattle.mp_tickets.proofs.Seeks.{up_to}
use Rattle.mp_tickets.proofs.Follows.{Follows, IsNear}
use Rattle.mp_tickets.proofs.chain.Chain.seek_after.Given as goal

abbrev pub invariant-loop-at : goal.invariant-loop-at
invariant-loop-at g l = Follows l.ticket l.self.nodes.cells l.after l.at × IsNear l.near l.ticket l.self.nodes.cells

abbrev pub decreases-loop-at : goal.decreases-loop-at
decreases-loop-at g l = length (up_to l.at l.self.nodes.cells)
