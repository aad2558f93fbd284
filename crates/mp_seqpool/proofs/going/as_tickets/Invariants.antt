use Rattle.std.proofs.Common.{◌≡◌, take}
use Rattle.mp_seqpool.proofs.going.as_tickets.Given as goal

abbrev pub invariant-loop-ticket : goal.invariant-loop-ticket
invariant-loop-ticket l = l.tickets ≡ take l.ticket-index l.rising
