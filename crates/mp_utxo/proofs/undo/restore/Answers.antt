use Rattle.std.proofs.Common.{◌∙◌}
use Rattle.mp_utxo.proofs.Noting.{restores_more}
use Rattle.mp_utxo.proofs.undo.restore.Goals as goal

pub loop-input-preserved : goal.loop-input-preserved
loop-input-preserved c = record {
  notes = restores_more _ c.loop-input.changes.entries _ c.args.inputs.now c.loop-input.input-index c.input-item.result c.loop-input-test.true c.input-item.is c.loop-input.invariant.notes c.restore_one.ensures.notes;
  salt = c.restore_one.ensures.salt ∙ c.loop-input.invariant.salt;
}
