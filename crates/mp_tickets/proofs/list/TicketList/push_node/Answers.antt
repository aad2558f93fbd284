use Rattle.std.proofs.Common.{◌<◌, ◌+◌, ℕ, sym, ap, ◌∙◌, subst, arith}
use Rattle.std.specs.List.{All}
use Rattle.mp_tickets.proofs.Listed.{fewer, pushed_rising, pushed_one}
use Rattle.mp_tickets.proofs.list.TicketList.push_node.Goals as goal

pub overflow_add-self : goal.overflow_add-self
overflow_add-self g c =
    let few = fewer c.self.inside.chain.nodes.cells c.self.invariant.rising c.args.ticket c.requires.above_zero (subst (All (λ (e : ℕ × _). e.0 < c.args.ticket)) (sym c.self.view_is) c.requires.greater) in
    let counted = c.self.invariant.counted in let fits = c.ranges.ticket.fits in record { fits = omega arith }

pub invariant_of-self : goal.invariant_of-self
invariant_of-self g c =
    let cs = c.self.inside.chain.nodes.cells in let new = c.push.new.self.nodes.cells in let pushed = c.push.ensures.pairs in
    let greater = subst (All (λ (e : ℕ × _). e.0 < c.args.ticket)) (sym c.self.view_is) c.requires.greater in
    record {
      chained = c.push.ensures.chained;
      rising = pushed_rising cs c.self.invariant.rising c.args.ticket c.requires.above_zero greater new c.node.inside.link.value.item pushed;
      counted = ap (λ n. n + 1) c.self.invariant.counted ∙ sym (pushed_one cs c.self.invariant.rising c.args.ticket c.requires.above_zero greater new c.node.inside.link.value.item pushed);
    }
