use Rattle.std.proofs.Common.{map, sym, subst, ◌∙◌}
use Rattle.std.proofs.lemmas.Map.Iter.{iter_end}
use Rattle.std.proofs.lemmas.Map.Views.{All-turn}
use Rattle.mp_tx.specs.Spelling.{id_of}
use Rattle.mp_tickets.specs.Tickets.{shown}
use Rattle.mp_seqpool.specs.ValidatedTx.{IsVouched, ticketed}
use Rattle.mp_seqpool.specs.Kept.{IsKeptOf}
use Rattle.mp_seqpool.proofs.Revalidated.{one_more, below}
use Rattle.mp_seqpool.proofs.Turns.{below_turn, ticketed-last}
use Rattle.mp_seqpool.proofs.revalidation.revalidate.Goals as goal

pub loop-ticket-init : goal.loop-ticket-init
loop-ticket-init g c = (tt, tt, c.in_ok-kept.ensures (g.V.Verifier.accepts c.args.verifier.now) c.args.without.now)

pub handle-requires-clause-vouched : goal.handle-requires-clause-vouched
handle-requires-clause-vouched g c =
    All-turn shown (λ e. IsVouched (g.V.Verifier.accepts c.args.verifier.now) e.1) c.args.items.now c.loop-ticket.yielded c.into_iter-ticket-iterator.result c.loop-ticket.ticket-iterator c.next.new.self c.next.result (c.in-Some.ticket, c.in-Some.item)
    c.requires (c.into_iter-ticket-iterator.ensures.into_iter_gives ∙ c.iter-ticket-items.ensures.all) c.loop-ticket.yielded_by c.in-Some.is c.next.ensures.steps

pub handle-requires-clause-below : goal.handle-requires-clause-below
handle-requires-clause-below g c =
    below (g.V.Verifier.accepts c.args.verifier.now) c.args.ledger.now c.args.without.now (ticketed (map shown c.loop-ticket.yielded)) c.in-Some.ticket c.loop-ticket.kept
    (below_turn c.args.items.now c.into_iter-ticket-iterator.result c.loop-ticket.ticket-iterator c.next.new.self c.loop-ticket.yielded c.next.result (c.in-Some.ticket, c.in-Some.item)
    c.iter-ticket-items.ensures.rising (c.into_iter-ticket-iterator.ensures.into_iter_gives ∙ c.iter-ticket-items.ensures.all) c.loop-ticket.yielded_by c.in-Some.is c.next.ensures.steps)
    c.loop-ticket.invariant.2

pub handle-requires-clause-salt : goal.handle-requires-clause-salt
handle-requires-clause-salt g c = c.in_ok-names.ensures.salt ∙ c.salt.ensures ∙ sym c.loop-ticket.invariant.2.salt

pub loop-ticket-preserved : goal.loop-ticket-preserved
loop-ticket-preserved g c =
    let accepts = g.V.Verifier.accepts c.args.verifier.now in (
      tt,
      tt,
      subst (λ l. IsKeptOf accepts c.args.ledger.now l c.args.without.now c.handle.new.kept) (sym (ticketed-last c.loop-ticket.yielded (c.in-Some.ticket, c.in-Some.item)))
          (one_more accepts c.args.ledger.now c.args.without.now _ (ticketed (map shown c.loop-ticket.yielded)) (c.in-Some.ticket, c.in-Some.item.now.tx) c.loop-ticket.kept c.handle.new.kept
          (c.in_ok-names.ensures.named (id_of c.in-Some.item.now.tx)) c.loop-ticket.invariant.2 c.in_ok-handle.ensures),
    )

pub returns : goal.returns
returns g c =
    subst (λ l. IsKeptOf (g.V.Verifier.accepts c.args.verifier.now) c.args.ledger.now (ticketed l) c.args.without.now c.loop-ticket.kept)
    (iter_end shown c.args.items.now c.loop-ticket.yielded c.into_iter-ticket-iterator.result c.loop-ticket.ticket-iterator c.next.new.self c.next.result
    (c.into_iter-ticket-iterator.ensures.into_iter_gives ∙ c.iter-ticket-items.ensures.all) c.loop-ticket.yielded_by c.in-None.is c.next.ensures.steps).0
    c.loop-ticket.invariant.2
