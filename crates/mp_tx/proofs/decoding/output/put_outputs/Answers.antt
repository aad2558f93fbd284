use Rattle.std.proofs.Common.{◌-◌, ◌+◌, sym, subst}
use Rattle.std.specs.Prelude.{None}
use Rattle.mp_tx.specs.Reading.{items_read, itself, output_read}
use Rattle.mp_tx.proofs.Items.{IsOnTheWay, goes_on_last, stops, last_key}
use Rattle.mp_tx.proofs.decoding.output.put_outputs.Goals as goal

pub returns-in-Err : goal.returns-in-Err
returns-in-Err c ne =
    stops itself output_read c.args.count c.loop.counter _ _ _ _ c.in-Err.fault c.loop-test.true c.loop.invariant
    (c.in-Err.ensures (last_key itself None c.loop.outputs.items) ne)

pub loop-preserved : goal.loop-preserved
loop-preserved c =
    subst (λ items. IsOnTheWay itself output_read (c.args.count - (c.loop.counter + 1)) (items_read itself output_read None c.args.count c.args.bytes.now) items (last_key itself None items) c.in-Ok.after.now)
    (sym c.in_ok-push-in-Ok.ensures.items)
    (goes_on_last output_read c.args.count c.loop.counter _ _ _ c.in-Ok.output c.in-Ok.after.now c.loop-test.true c.loop.invariant (c.in-Ok.ensures (last_key itself None c.loop.outputs.items)))
