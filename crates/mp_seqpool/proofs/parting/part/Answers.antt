use Rattle.std.proofs.Common.{◌≡◌, map, sym, ap, subst, ◌∙◌}
use Rattle.std.proofs.lemmas.Map.Iter.{iter_end}
use Rattle.mp_tx.specs.Transaction.{Transaction}
use Rattle.mp_tickets.specs.Tickets.{shown}
use Rattle.mp_seqpool.specs.ValidatedTx.{ValidatedTx, ticketed}
use Rattle.mp_seqpool.specs.Parted.{IsParted}
use Rattle.mp_seqpool.specs.Inside.Parts.{Parts}
use Rattle.mp_seqpool.proofs.TellingApart.{one_more, below}
use Rattle.mp_seqpool.proofs.Turns.{below_turn, ticketed-last}
use Rattle.mp_seqpool.proofs.parting.part.Goals as goal

pub part_one-requires : goal.part_one-requires
part_one-requires c =
    below c.args.overlay.now.ledger c.args.overlay.now.applied c.args.new.now (ticketed (map shown c.loop-ticket.yielded)) c.in-Some.ticket c.loop-ticket.parted
    (below_turn c.args.items.now c.into_iter-ticket-iterator.result c.loop-ticket.ticket-iterator c.next.new.self c.loop-ticket.yielded c.next.result (c.in-Some.ticket, c.in-Some.item)
    c.iter-ticket-items.ensures.rising (c.into_iter-ticket-iterator.ensures.into_iter_gives ∙ c.iter-ticket-items.ensures.all) c.loop-ticket.yielded_by c.in-Some.is c.next.ensures.steps)
    c.loop-ticket.invariant.2

pub loop-ticket-preserved : goal.loop-ticket-preserved
loop-ticket-preserved c =
    let same : c.deref.result.now ≡ c.in-Some.item.now.tx = c.deref.ensures ∙ ap (λ (v : ValidatedTx). v.tx) c.item.view_is in
    let parts = c.in_ok-part_one.ensures c.if-not-branch.false in (
      tt,
      tt,
      subst (λ l. IsParted c.args.overlay.now.ledger c.args.overlay.now.applied c.args.new.now l c.part_one.new.parted) (sym (ticketed-last c.loop-ticket.yielded (c.in-Some.ticket, c.in-Some.item)))
          (one_more c.args.overlay.now.ledger c.args.overlay.now.applied c.args.new.now (ticketed (map shown c.loop-ticket.yielded)) (c.in-Some.ticket, c.in-Some.item.now.tx) c.loop-ticket.parted c.part_one.new.parted
          c.loop-ticket.invariant.2 (subst (λ (t : Transaction). Parts c.args.overlay.now.ledger c.args.overlay.now.applied c.args.new.now c.loop-ticket.parted (c.in-Some.ticket, t) c.part_one.new.parted) same parts)),
    )

pub returns : goal.returns
returns c =
    subst (λ l. IsParted c.args.overlay.now.ledger c.args.overlay.now.applied c.args.new.now (ticketed l) c.loop-ticket.parted)
    (iter_end shown c.args.items.now c.loop-ticket.yielded c.into_iter-ticket-iterator.result c.loop-ticket.ticket-iterator c.next.new.self c.next.result
    (c.into_iter-ticket-iterator.ensures.into_iter_gives ∙ c.iter-ticket-items.ensures.all) c.loop-ticket.yielded_by c.in-None.is c.next.ensures.steps).0
    c.loop-ticket.invariant.2
