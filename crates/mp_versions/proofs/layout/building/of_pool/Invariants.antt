use Rattle.std.proofs.Common.{map}
use Rattle.mp_tickets.specs.Tickets.{shown}
use Rattle.mp_seqpool.specs.ValidatedTx.{ticketed}
use Rattle.mp_versions.specs.Inside.Built.{IsBuilt}
use Rattle.mp_versions.proofs.layout.building.of_pool.Given as goal

-- it consists of the items so far
abbrev pub invariant-loop-ticket : goal.invariant-loop-ticket
invariant-loop-ticket l =
    goal.iterator-loop-ticket.can_next l.ticket-iterator
    × goal.iterator-loop-ticket.is_finite l.ticket-iterator
    × IsBuilt (ticketed (map shown l.yielded)) l.built
