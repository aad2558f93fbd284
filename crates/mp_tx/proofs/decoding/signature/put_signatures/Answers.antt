use Rattle.std.proofs.Common.{◌-◌, ◌+◌, sym, subst}
use Rattle.std.specs.Prelude.{None, Some}
use Rattle.mp_tx.specs.Reading.{items_read, itself, signature_read}
use Rattle.mp_tx.proofs.Items.{IsOnTheWay, goes_on, stops}
use Rattle.mp_tx.proofs.decoding.signature.put_signatures.Goals as goal

pub returns-in-Err : goal.returns-in-Err
returns-in-Err c ne =
    stops itself signature_read c.args.count c.loop.counter _ _ _ _ c.in-Err.fault c.loop-test.true c.loop.invariant (sym c.in-Err.ensures)

pub loop-preserved : goal.loop-preserved
loop-preserved c =
    subst (λ items. IsOnTheWay itself signature_read (c.args.count - (c.loop.counter + 1)) (items_read itself signature_read None c.args.count c.args.bytes.now) items (Some c.in-Ok.signature) c.in-Ok.after.now)
    (sym c.in_ok-push-in-Ok.ensures.items)
    (goes_on itself signature_read c.args.count c.loop.counter _ _ _ _ c.in-Ok.signature c.in-Ok.after.now c.loop-test.true c.loop.invariant (sym c.in-Ok.ensures))
