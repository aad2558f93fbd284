use Rattle.std.proofs.Common.{◌∙◌, arith}
use Rattle.mp_utxo.proofs.Noting.{spends_more}
use Rattle.mp_utxo.proofs.changes.spend.Goals as goal

pub loop-input-preserved : goal.loop-input-preserved
loop-input-preserved c = record {
  spends = spends_more _ c.loop-input.changes.entries _ c.args.spender c.args.inputs.now c.loop-input.input-index c.input-item.result c.loop-input-test.true c.input-item.is c.loop-input.invariant.spends c.spend_one.ensures.spends;
  room = omega arith;
  salt = c.spend_one.ensures.salt ∙ c.loop-input.invariant.salt;
}
