use Rattle.std.proofs.Common.{◌<◌, List, length, subst, sym, ap, ◌∙◌}
use Rattle.std.specs.Prelude.{is_some}
use Rattle.std.specs.List.{position_from, range_with_len}
use Rattle.std.proofs.lemmas.Iterator.Adapters.{position_from-zero}
use Rattle.mp_tx.specs.declared.output.Output.{Output}
use Rattle.mp_utxo.specs.Apply.{Unspent, own_ref}
use Rattle.mp_rules.proofs.Positions.{position_from-miss, less_zero}
use Rattle.mp_rules.proofs.map.taken_place.Goals as goal

pub loop-index-init : goal.loop-index-init
loop-index-init g c =
    let u : Unspent = g.U.Utxo.map c.args.utxo.now in
    ap (λ n. position_from (λ k. is_some (u (own_ref c.args.tx.now k))) 0 (range_with_len 0 n)) (less_zero (length c.args.tx.now.outputs))
    ∙ sym (position_from-zero (λ k. is_some (u (own_ref c.args.tx.now k))) (range_with_len 0 (length c.args.tx.now.outputs)))

pub loop-index-preserved : goal.loop-index-preserved
loop-index-preserved g c =
    let u : Unspent = g.U.Utxo.map c.args.utxo.now in
    sym (position_from-miss (λ k. is_some (u (own_ref c.args.tx.now k))) c.loop-index.index (length c.args.tx.now.outputs) (subst (λ (os : List Output). c.loop-index.index < length os) c.outputs.ensures.outputs c.loop-index-test.true)
    (ap (λ id. is_some (u (record { id = id; index = c.loop-index.index }))) (sym c.id.ensures) ∙ sym c.is_there.ensures ∙ c.if-is_there.false))
    ∙ c.loop-index.invariant
