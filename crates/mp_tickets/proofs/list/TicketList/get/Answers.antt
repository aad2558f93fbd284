use Rattle.std.proofs.Common.{sym, ap, ◌∙◌}
use Rattle.std.specs.Prelude.{option_copied}
use Rattle.mp_tickets.specs.Tickets.{item_at}
use Rattle.mp_tickets.specs.Inside.Chain.{bucket_count}
use Rattle.mp_tickets.proofs.Listed.{no_item, found_item}
use Rattle.mp_tickets.proofs.list.TicketList.get.Goals as goal

pub returns-in_err-found : goal.returns-in_err-found
returns-in_err-found g c =
    ap option_copied c.from_residual.ensures ∙ sym (no_item c.args.ticket c.self.inside.chain.nodes.cells c.in_err-found.ensures).0 ∙ ap (λ l. item_at l c.args.ticket) c.self.view_is

pub returns : goal.returns
returns g c =
    found_item c.self.inside.chain.nodes.cells c.self.invariant.rising (bucket_count c.self.inside.chain) c.args.ticket c.in_ok-found.found c.in_ok-found.ensures c.get.result.now c.get.ensures
    ∙ ap (λ l. item_at l c.args.ticket) c.self.view_is
