use Rattle.std.proofs.Common.{◌≡◌, sym, ap, subst, ◌∙◌}
use Rattle.mp_tx.specs.Transaction.{spent_refs}
use Rattle.mp_tx.specs.Ledger.{without, AreThere, AreFree}
use Rattle.mp_rules.specs.Block.{made_by}
use Rattle.mp_rules.proofs.Spending.{inputs_there}
use Rattle.mp_rules.proofs.BlockEffect.{made_is_free}
use Rattle.mp_rules.proofs.block.applying.apply_tx.Goals as goal

pub follow-requires-clause-there : goal.follow-requires-clause-there
follow-requires-clause-there c =
    let u = c.args.ledger.now.utxo in
    let same : c.deref.result.now ≡ spent_refs c.args.tx.now.inputs = c.deref.ensures.value ∙ c.in_ok-spent.ensures ∙ ap spent_refs c.inputs.ensures.inputs in
    subst (AreThere u) (sym same) (inputs_there u c.args.tx.now.inputs c.inputs.ensures.fits.inputs_rise c.requires.there)

pub follow-requires-clause-free : goal.follow-requires-clause-free
follow-requires-clause-free c =
    let u = c.args.ledger.now.utxo in
    let same : c.deref.result.now ≡ spent_refs c.args.tx.now.inputs = c.deref.ensures.value ∙ c.in_ok-spent.ensures ∙ ap spent_refs c.inputs.ensures.inputs in
    subst (AreFree (without u c.deref.result.now)) (sym c.in_ok-made.ensures)
    (subst (λ rs. AreFree (without u rs) (made_by c.args.tx.now)) (sym same) (made_is_free u c.args.tx.now c.requires.fresh))
