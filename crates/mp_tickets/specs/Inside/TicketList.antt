-- What a list stores in addition to the items that contracts see.
use Rattle.std.specs.Prelude.{◌≡◌, length}
use Rattle.mp_tickets.specs.Tickets.{IsRising}
use Rattle.mp_tickets.specs.Inside.Links.{pairs}
use Rattle.mp_tickets.specs.Inside.Chain.{IsChained}
use Rattle.mp_tickets.specs.declared.list.TicketList.TheInside as list

pub record IsHeld {T : Type 0} (l : list.Inside T) : Type 0 where
  -- the links lead through the nodes
  pub chained : IsChained l.chain
  -- the tickets of the nodes are strictly increasing
  pub rising : IsRising (pairs l.chain.nodes.cells)
  -- the number of nodes is right
  pub counted : l.len ≡ length l.chain.nodes.cells
