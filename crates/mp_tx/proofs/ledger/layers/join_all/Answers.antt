use Rattle.std.proofs.Common.{ap, ◌∙◌, fold}
use Rattle.mp_tx.specs.Inside.Changes.{with_earlier}
use Rattle.mp_tx.proofs.Layering.{joined_more}
use Rattle.mp_tx.proofs.ledger.layers.join_all.Goals as goal

pub loop-layer-preserved : goal.loop-layer-preserved
loop-layer-preserved c =
    let mid = c.loop-layer.changes.entries in
    record {
      noted = joined_more c.args.changes.now.entries mid c.join.new.changes.entries c.args.layers.now c.loop-layer.layer-index c.layer-item.result c.loop-layer-test.true c.layer-item.is c.loop-layer.invariant.noted
          (c.in_ok-join.ensures.noted ∙ ap (fold with_earlier mid) c.changes.ensures);
      salt = c.in_ok-join.ensures.salt ∙ c.loop-layer.invariant.salt;
    }
