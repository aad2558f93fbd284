use Rattle.std.proofs.Common.{Some, sym, ap, ◌∙◌, arith}
use Rattle.mp_tickets.specs.Tickets.{item_at, without}
use Rattle.mp_tickets.specs.declared.node.Link.{Link}
use Rattle.mp_tickets.specs.Inside.Chain.{bucket_count}
use Rattle.mp_tickets.proofs.Listed.{no_item, taken_item, taken_list, taken_rising, taken_one}
use Rattle.mp_tickets.proofs.list.TicketList.unlink.Goals as goal

pub returns-in_err-found-clause-item : goal.returns-in_err-found-clause-item
returns-in_err-found-clause-item g c =
    c.from_residual.ensures ∙ sym (no_item c.args.ticket c.self.inside.chain.nodes.cells c.in_err-found.ensures).0 ∙ ap (λ l. item_at l c.args.ticket) c.self.view_is

pub returns-in_err-found-clause-list : goal.returns-in_err-found-clause-list
returns-in_err-found-clause-list g c =
    sym c.self.view_is ∙ sym (no_item c.args.ticket c.self.inside.chain.nodes.cells c.in_err-found.ensures).1 ∙ ap (λ l. without l c.args.ticket) c.self.view_is

pub invariant_of-self : goal.invariant_of-self
invariant_of-self g c =
    let cs = c.self.inside.chain.nodes.cells in let f = c.in_ok-found.found in let new = c.take.new.self.nodes.cells in let v = c.take.result.value in
    let one = taken_one cs c.self.invariant.rising (bucket_count c.self.inside.chain) c.args.ticket f c.in_ok-found.ensures new v c.take.ensures.taken in let counted = c.self.invariant.counted in
    record {
      chained = c.take.ensures.chained;
      rising = taken_rising cs c.self.invariant.rising (bucket_count c.self.inside.chain) c.args.ticket f c.in_ok-found.ensures new v c.take.ensures.taken;
      counted = omega arith;
    }

pub returns-clause-item : goal.returns-clause-item
returns-clause-item g c =
    let cs = c.self.inside.chain.nodes.cells in let f = c.in_ok-found.found in let new = c.take.new.self.nodes.cells in let v = c.take.result.value in
    ap Some (c.into_item.ensures ∙ ap (λ (l : Link _). l.item) (c.into_inner.ensures ∙ c.into_box-link.ensures))
    ∙ taken_item cs c.self.invariant.rising (bucket_count c.self.inside.chain) c.args.ticket f c.in_ok-found.ensures new v c.take.ensures.taken ∙ ap (λ l. item_at l c.args.ticket) c.self.view_is

pub returns-clause-list : goal.returns-clause-list
returns-clause-list g c =
    let cs = c.self.inside.chain.nodes.cells in let f = c.in_ok-found.found in let new = c.take.new.self.nodes.cells in let v = c.take.result.value in
    taken_list cs c.self.invariant.rising (bucket_count c.self.inside.chain) c.args.ticket f c.in_ok-found.ensures new v c.take.ensures.taken ∙ ap (λ l. without l c.args.ticket) c.self.view_is
