use Rattle.std.proofs.Common.{◌≡◌, ◌+◌, drop}
use Rattle.mp_tickets.specs.Tickets.{among}
use Rattle.mp_seqpool.specs.Keep.{bytes_of}
use Rattle.mp_versions.specs.Layout.{items_in}
use Rattle.mp_versions.proofs.layout.reading.bytes_among.Given as goal

-- with those of the remaining tickets they are all
abbrev pub invariant-loop-ticket : goal.invariant-loop-ticket
invariant-loop-ticket l = l.bytes + bytes_of (among (drop l.ticket-index l.tickets) (items_in l.layout)) ≡ bytes_of (among l.tickets (items_in l.layout))
