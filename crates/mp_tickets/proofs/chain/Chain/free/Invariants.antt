use Rattle.std.proofs.Common.{◌≡◌, length, None}
use Rattle.mp_tickets.specs.Inside.Links.{first_of, Forward, nexts}
use Rattle.mp_tickets.proofs.chain.Chain.free.Given as goal

abbrev pub invariant-loop-at : goal.invariant-loop-at
invariant-loop-at g l = Forward (nexts l.nodes.cells) None × (l.at ≡ first_of (nexts l.nodes.cells) None)

abbrev pub decreases-loop-at : goal.decreases-loop-at
decreases-loop-at g l = length l.nodes.cells
