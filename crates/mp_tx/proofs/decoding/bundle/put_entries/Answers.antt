use Rattle.std.proofs.Common.{◌-◌, ◌+◌, sym, subst}
use Rattle.std.specs.Prelude.{None, Some}
use Rattle.mp_tx.specs.Reading.{items_read, entry_read}
use Rattle.mp_tx.proofs.Items.{IsOnTheWay, goes_on, stops}
use Rattle.mp_tx.proofs.decoding.bundle.put_entries.Goals as goal

pub returns-in-Err : goal.returns-in-Err
returns-in-Err c ne =
    stops (λ e. e.0) entry_read c.args.count c.loop.counter _ _ _ _ c.in-Err.fault c.loop-test.true c.loop.invariant (sym c.in-Err.ensures)

pub loop-preserved : goal.loop-preserved
loop-preserved c =
    subst (λ items. IsOnTheWay (λ e. e.0) entry_read (c.args.count - (c.loop.counter + 1)) (items_read (λ e. e.0) entry_read None c.args.count c.args.bytes.now) items (Some c.in-Ok.entry.0) c.in-Ok.after.now)
    (sym c.in_ok-push-in-Ok.ensures.items)
    (goes_on (λ e. e.0) entry_read c.args.count c.loop.counter _ _ _ _ c.in-Ok.entry c.in-Ok.after.now c.loop-test.true c.loop.invariant (sym c.in-Ok.ensures))
