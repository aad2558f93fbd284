use Rattle.std.proofs.Common.{◌+◌, ◌-◌, length, refl, sym, ap, subst, ◌∙◌}
use Rattle.mp_seqpool.specs.ValidatedTx.{ValidatedTx, ticketed}
use Rattle.mp_seqpool.proofs.InTurn.{AreOut, none_out, found_can_go, found_out, none_found}
use Rattle.mp_seqpool.proofs.leaving.take_in_turn.Goals.{in-Some, in_default}
use Rattle.mp_seqpool.proofs.leaving.take_in_turn.Goals as goal

pub loop-index-init : goal.loop-index-init
loop-index-init c = none_out c.args.overlay.now (ticketed c.args.items.now) c.args.gone.now c.requires

pub take_out-requires-clause-leaf : goal.take_out-requires-clause-leaf
take_out-requires-clause-leaf c =
    let told = c.as_slice-tickets in
    (found_can_go c.args.overlay.now c.loop-index.overlay c.args.items.now c.args.gone.now told.result.now c.loop-index.index (length told.result.now - 1 - c.loop-index.index) c.requires told.ensures.same told.ensures.rising
    c.loop-index-test.true refl c.loop-index.invariant c.in-Some.item.now c.deref.result.now c.in-Some.ensures (c.deref.ensures ∙ ap (λ (v : ValidatedTx). v.tx) c.item.view_is)).leaf

pub take_out-requires-clause-fed : goal.take_out-requires-clause-fed
take_out-requires-clause-fed c =
    let told = c.as_slice-tickets in
    (found_can_go c.args.overlay.now c.loop-index.overlay c.args.items.now c.args.gone.now told.result.now c.loop-index.index (length told.result.now - 1 - c.loop-index.index) c.requires told.ensures.same told.ensures.rising
    c.loop-index-test.true refl c.loop-index.invariant c.in-Some.item.now c.deref.result.now c.in-Some.ensures (c.deref.ensures ∙ ap (λ (v : ValidatedTx). v.tx) c.item.view_is)).fed

pub take_out-requires-clause-distinct : goal.take_out-requires-clause-distinct
take_out-requires-clause-distinct c =
    let told = c.as_slice-tickets in
    (found_can_go c.args.overlay.now c.loop-index.overlay c.args.items.now c.args.gone.now told.result.now c.loop-index.index (length told.result.now - 1 - c.loop-index.index) c.requires told.ensures.same told.ensures.rising
    c.loop-index-test.true refl c.loop-index.invariant c.in-Some.item.now c.deref.result.now c.in-Some.ensures (c.deref.ensures ∙ ap (λ (v : ValidatedTx). v.tx) c.item.view_is)).distinct

pub take_out-requires-clause-there : goal.take_out-requires-clause-there
take_out-requires-clause-there c =
    let told = c.as_slice-tickets in
    (found_can_go c.args.overlay.now c.loop-index.overlay c.args.items.now c.args.gone.now told.result.now c.loop-index.index (length told.result.now - 1 - c.loop-index.index) c.requires told.ensures.same told.ensures.rising
    c.loop-index-test.true refl c.loop-index.invariant c.in-Some.item.now c.deref.result.now c.in-Some.ensures (c.deref.ensures ∙ ap (λ (v : ValidatedTx). v.tx) c.item.view_is)).there

pub loop-index-preserved : goal.loop-index-preserved
loop-index-preserved c =
    let told = c.as_slice-tickets in
    elim c.match-get.branch [
      | in-Some w ↦
          subst (AreOut c.args.overlay.now (ticketed c.args.items.now) c.args.gone.now (c.loop-index.index + 1)) (sym w.overlay-is)
          (found_out c.args.overlay.now c.loop-index.overlay c.args.items.now c.args.gone.now told.result.now c.loop-index.index (length told.result.now - 1 - c.loop-index.index) c.requires told.ensures.same told.ensures.rising
          c.loop-index-test.true refl c.loop-index.invariant w.in-Some.item.now w.deref.result.now w.take_out.new.self w.in-Some.ensures (w.deref.ensures ∙ ap (λ (v : ValidatedTx). v.tx) w.item.view_is) w.take_out.ensures)
      | in_default w ↦
          subst (AreOut c.args.overlay.now (ticketed c.args.items.now) c.args.gone.now (c.loop-index.index + 1)) (sym w.overlay-is)
          (none_found c.args.overlay.now c.loop-index.overlay c.args.items.now c.args.gone.now told.result.now c.loop-index.index (length told.result.now - 1 - c.loop-index.index) c.requires told.ensures.same told.ensures.rising
          c.loop-index-test.true refl c.loop-index.invariant w.in_default.ensures)
    ]
