use Rattle.std.proofs.Common.{◌-◌, ◌+◌, sym, subst}
use Rattle.std.specs.Prelude.{None, Some}
use Rattle.mp_tx.specs.Reading.{items_read, input_read}
use Rattle.mp_tx.proofs.Items.{IsOnTheWay, goes_on, stops}
use Rattle.mp_tx.proofs.decoding.input.put_inputs.Goals as goal

pub returns-in-Err : goal.returns-in-Err
returns-in-Err c ne =
    stops (λ i. i.from) input_read c.args.count c.loop.counter _ _ _ _ c.in-Err.fault c.loop-test.true c.loop.invariant (c.in-Err.ensures ne)

pub loop-preserved : goal.loop-preserved
loop-preserved c =
    subst (λ items. IsOnTheWay (λ i. i.from) input_read (c.args.count - (c.loop.counter + 1)) (items_read (λ i. i.from) input_read None c.args.count c.args.bytes.now) items (Some c.in-Ok.input.from) c.in-Ok.after.now)
    (sym c.in_ok-push-in-Ok.ensures.items)
    (goes_on (λ i. i.from) input_read c.args.count c.loop.counter _ _ _ _ c.in-Ok.input c.in-Ok.after.now c.loop-test.true c.loop.invariant (c.in-Ok.ensures))
