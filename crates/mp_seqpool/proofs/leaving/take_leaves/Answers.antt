use Rattle.std.proofs.Common.{◌+◌, take, sym, ap, subst, ◌∙◌}
use Rattle.mp_seqpool.specs.ValidatedTx.{ValidatedTx, ticketed}
use Rattle.mp_seqpool.specs.Inside.NamedLeaves.{Lacks}
use Rattle.mp_seqpool.proofs.LeavesOut.{none_out, found_can_go, found_out, none_found}
use Rattle.mp_seqpool.proofs.leaving.take_leaves.Goals.{in-Some, in_default}
use Rattle.mp_seqpool.proofs.leaving.take_leaves.Goals as goal

pub loop-ticket-init : goal.loop-ticket-init
loop-ticket-init c = none_out c.args.overlay.now (ticketed c.args.items.now) c.args.gone.now c.requires

pub take_out-requires-clause-leaf : goal.take_out-requires-clause-leaf
take_out-requires-clause-leaf c =
    let told = c.as_slice-ticket-items in
    (found_can_go c.args.overlay.now c.loop-ticket.overlay c.args.items.now c.args.gone.now told.result.now c.loop-ticket.ticket-index c.requires told.ensures.same told.ensures.rising c.loop-ticket-test.true c.loop-ticket.invariant
    c.in-Some.item.now c.deref.result.now c.in-Some.ensures (c.deref.ensures ∙ ap (λ (v : ValidatedTx). v.tx) c.item.view_is)).leaf

pub take_out-requires-clause-fed : goal.take_out-requires-clause-fed
take_out-requires-clause-fed c =
    let told = c.as_slice-ticket-items in
    (found_can_go c.args.overlay.now c.loop-ticket.overlay c.args.items.now c.args.gone.now told.result.now c.loop-ticket.ticket-index c.requires told.ensures.same told.ensures.rising c.loop-ticket-test.true c.loop-ticket.invariant
    c.in-Some.item.now c.deref.result.now c.in-Some.ensures (c.deref.ensures ∙ ap (λ (v : ValidatedTx). v.tx) c.item.view_is)).fed

pub take_out-requires-clause-distinct : goal.take_out-requires-clause-distinct
take_out-requires-clause-distinct c =
    let told = c.as_slice-ticket-items in
    (found_can_go c.args.overlay.now c.loop-ticket.overlay c.args.items.now c.args.gone.now told.result.now c.loop-ticket.ticket-index c.requires told.ensures.same told.ensures.rising c.loop-ticket-test.true c.loop-ticket.invariant
    c.in-Some.item.now c.deref.result.now c.in-Some.ensures (c.deref.ensures ∙ ap (λ (v : ValidatedTx). v.tx) c.item.view_is)).distinct

pub take_out-requires-clause-there : goal.take_out-requires-clause-there
take_out-requires-clause-there c =
    let told = c.as_slice-ticket-items in
    (found_can_go c.args.overlay.now c.loop-ticket.overlay c.args.items.now c.args.gone.now told.result.now c.loop-ticket.ticket-index c.requires told.ensures.same told.ensures.rising c.loop-ticket-test.true c.loop-ticket.invariant
    c.in-Some.item.now c.deref.result.now c.in-Some.ensures (c.deref.ensures ∙ ap (λ (v : ValidatedTx). v.tx) c.item.view_is)).there

pub loop-ticket-preserved : goal.loop-ticket-preserved
loop-ticket-preserved c =
    let told = c.as_slice-ticket-items in
    elim c.match-get.branch [
      | in-Some w ↦
          subst (Lacks c.args.overlay.now (ticketed c.args.items.now) (take (c.loop-ticket.ticket-index + 1) c.args.gone.now)) (sym w.overlay-is)
          (found_out c.args.overlay.now c.loop-ticket.overlay c.args.items.now c.args.gone.now told.result.now c.loop-ticket.ticket-index c.requires told.ensures.same told.ensures.rising c.loop-ticket-test.true c.loop-ticket.invariant
          w.in-Some.item.now w.deref.result.now w.take_out.new.self w.in-Some.ensures (w.deref.ensures ∙ ap (λ (v : ValidatedTx). v.tx) w.item.view_is) w.take_out.ensures)
      | in_default w ↦
          subst (Lacks c.args.overlay.now (ticketed c.args.items.now) (take (c.loop-ticket.ticket-index + 1) c.args.gone.now)) (sym w.overlay-is)
          (none_found c.args.overlay.now c.loop-ticket.overlay c.args.items.now c.args.gone.now told.result.now c.loop-ticket.ticket-index c.requires told.ensures.same told.ensures.rising c.loop-ticket-test.true c.loop-ticket.invariant
          w.in_default.ensures)
    ]
