use Rattle.std.proofs.Common.{sym, ap, ◌∙◌, slice_get}
use Rattle.mp_tickets.proofs.Listed.{first_ptr, first_pair}
use Rattle.mp_tickets.proofs.list.TicketList.front.Goals as goal

pub get-link-requires : goal.get-link-requires
get-link-requires g c = first_ptr c.self.inside.chain.nodes.cells c.in_ok-self.field-0 (sym c.in_ok-self.was ∙ c.self.invariant.chained.front)

pub returns-clause-first : goal.returns-clause-first
returns-clause-first g c =
    first_pair c.self.inside.chain.nodes.cells c.in_ok-self.field-0 c.get-link.result.now (sym c.in_ok-self.was ∙ c.self.invariant.chained.front) c.get-link.ensures
    ∙ ap (λ l. slice_get l 0) c.self.view_is
