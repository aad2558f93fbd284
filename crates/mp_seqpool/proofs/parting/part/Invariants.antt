use Rattle.std.proofs.Common.{map}
use Rattle.mp_tickets.specs.Tickets.{shown}
use Rattle.mp_seqpool.specs.ValidatedTx.{ticketed}
use Rattle.mp_seqpool.specs.Parted.{IsParted}
use Rattle.mp_seqpool.proofs.parting.part.Given as goal

-- the items so far are divided
abbrev pub invariant-loop-ticket : goal.invariant-loop-ticket
invariant-loop-ticket l =
    goal.iterator-loop-ticket.can_next l.ticket-iterator
    × goal.iterator-loop-ticket.is_finite l.ticket-iterator
    × IsParted l.overlay.ledger l.overlay.applied l.new (ticketed (map shown l.yielded)) l.parted
