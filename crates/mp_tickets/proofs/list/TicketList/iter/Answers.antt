use Rattle.std_collections.proofs.IterRuns.{shows_in_order}
use Rattle.mp_tickets.specs.Tickets.{shown}
use Rattle.mp_tickets.proofs.list.TicketList.iter.Goals as goal

pub returns-clause-runs : goal.returns-clause-runs
returns-clause-runs g c = shows_in_order shown
