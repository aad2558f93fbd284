use Rattle.std.proofs.Common.{◌-◌}
use Rattle.std.specs.Prelude.{None}
use Rattle.mp_tx.specs.Reading.{items_read, entry_read}
use Rattle.mp_tx.proofs.Items.{IsOnTheWay}
use Rattle.mp_tx.proofs.decoding.bundle.put_entries.Given as goal

abbrev pub invariant-loop : goal.invariant-loop
invariant-loop l = IsOnTheWay (λ e. e.0) entry_read (l.fn.count - l.counter) (items_read (λ e. e.0) entry_read None l.fn.count l.fn.bytes) l.entries.items l.before l.rest
