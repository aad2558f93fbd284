use Rattle.std.proofs.Common.{map}
use Rattle.mp_tickets.specs.Tickets.{shown}
use Rattle.mp_seqpool.specs.ValidatedTx.{ticketed}
use Rattle.mp_seqpool.specs.Kept.{IsKeptOf}
use Rattle.mp_seqpool.proofs.revalidation.revalidate.Given as goal

-- it is what is kept of the items so far
abbrev pub invariant-loop-ticket : goal.invariant-loop-ticket
invariant-loop-ticket g l =
    (goal.iterator-loop-ticket g).can_next l.ticket-iterator
    × (goal.iterator-loop-ticket g).is_finite l.ticket-iterator
    × IsKeptOf (g.V.Verifier.accepts l.verifier) l.ledger (ticketed (map shown l.yielded)) l.without l.kept
