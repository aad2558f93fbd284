use Rattle.std.proofs.Common.{length}
use Rattle.mp_tickets.specs.Inside.Chain.{bucket_count}
use Rattle.mp_tickets.proofs.Seeks.{Looks, up_to}
use Rattle.mp_tickets.proofs.chain.Chain.find.Given as goal

abbrev pub invariant-loop-at : goal.invariant-loop-at
invariant-loop-at g l = Looks (bucket_count l.self) l.ticket l.self.nodes.cells l.bucket_next l.at

abbrev pub decreases-loop-at : goal.decreases-loop-at
decreases-loop-at g l = length (up_to l.at l.self.nodes.cells)
