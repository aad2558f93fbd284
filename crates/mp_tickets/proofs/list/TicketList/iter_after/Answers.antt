use Rattle.std.proofs.Common.{None, ap, ◌∙◌, subst}
use Rattle.std_collections.proofs.IterRuns.{shows_in_order}
use Rattle.mp_tickets.specs.Tickets.{after, shown}
use Rattle.mp_tickets.specs.Inside.Links.{Forward, nexts, pairs}
use Rattle.mp_tickets.proofs.Links.{Forward-right, nexts-append}
use Rattle.mp_tickets.proofs.Listed.{from_there}
use Rattle.mp_tickets.proofs.list.TicketList.iter_after.Goals as goal

pub invariant_of-result : goal.invariant_of-result
invariant_of-result g c =
    let f = c.first_after.ensures in
    (f.0, f.1, f.2, f.3, Forward-right (nexts f.0) (nexts f.1) None (subst (λ l. Forward l None) (ap nexts f.2 ∙ nexts-append f.0 f.1) c.self.invariant.chained.forward))

pub returns-clause-all : goal.returns-clause-all
returns-clause-all g c =
    let f = c.first_after.ensures in let nodes = c.self.inside.chain.nodes in
    ap pairs (from_there nodes.cells f.0 f.1 c.first_after.result nodes.apart f.2 f.3) ∙ f.4 ∙ ap (λ l. after l c.args.ticket) c.self.view_is

pub returns-clause-runs : goal.returns-clause-runs
returns-clause-runs g c = shows_in_order shown
