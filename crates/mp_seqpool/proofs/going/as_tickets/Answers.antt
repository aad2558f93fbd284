use Rattle.mp_seqpool.proofs.TicketsNamed.{below_next}
use Rattle.mp_seqpool.proofs.going.as_tickets.Goals as goal

pub push-requires : goal.push-requires
push-requires c = below_next c.args.rising.now c.loop-ticket.ticket-index c.loop-ticket.tickets c.requires c.loop-ticket-test.true c.loop-ticket.invariant
