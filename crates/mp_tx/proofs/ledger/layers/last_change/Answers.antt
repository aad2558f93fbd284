use Rattle.std.proofs.Common.{sym, ap, ◌∙◌}
use Rattle.std.specs.Map.{lookup}
use Rattle.mp_tx.specs.Reference.{same_ref}
use Rattle.mp_tx.specs.Inside.Changes.{Noted}
use Rattle.mp_tx.proofs.Layering.{absent_more, found_at}
use Rattle.mp_tx.proofs.ledger.layers.last_change.Goals as goal

pub returns-in-Some : goal.returns-in-Some
returns-in-Some c =
    let r = c.args.reference.now in
    let found = ap (λ (es : Noted). lookup (same_ref r) es) (sym c.changes.ensures) ∙ sym c.in-Some.ensures.value in
    sym (found_at c.args.layers.now c.loop-layer.layer-index c.layer-item.result r c.in-Some.change.now c.loop-layer-test.true c.layer-item.is c.loop-layer.invariant found)

pub loop-layer-preserved : goal.loop-layer-preserved
loop-layer-preserved c =
    let r = c.args.reference.now in
    let none = ap (λ (es : Noted). lookup (same_ref r) es) (sym c.changes.ensures) ∙ sym c.in_default.ensures.value in
    absent_more c.args.layers.now c.loop-layer.layer-index c.layer-item.result r c.loop-layer-test.true c.layer-item.is c.loop-layer.invariant none
