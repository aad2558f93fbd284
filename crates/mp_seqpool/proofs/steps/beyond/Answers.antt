use Rattle.std.proofs.Common.{ℕ, ◌<◌, take, get_or, not, sym, ap, subst}
use Rattle.std.specs.Prelude.{All}
use Rattle.std.proofs.lemmas.List.Elements.{All-filter}
use Rattle.mp_tickets.specs.Tickets.{has_ticket}
use Rattle.mp_seqpool.proofs.TicketsNamed.{below_next}
use Rattle.mp_seqpool.proofs.steps.beyond.Goals as goal

pub push-requires : goal.push-requires
push-requires c =
    let told = c.as_slice-ticket-items in
    let index : ℕ = c.loop-ticket.ticket-index in
    subst (All (λ t. t < get_or told.result.now index 0)) (sym c.loop-ticket.invariant)
    (All-filter (λ n. not (has_ticket c.args.named.now n)) (λ t. t < get_or told.result.now index 0) (take index c.args.gone.now)
    (below_next told.result.now index (take index c.args.gone.now) told.ensures.rising c.loop-ticket-test.true (ap (take index) (sym told.ensures.same))))
