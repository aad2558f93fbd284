use Rattle.std.proofs.Common.{◌-◌}
use Rattle.std.specs.Prelude.{None}
use Rattle.mp_tx.specs.Reading.{items_read, itself, output_read}
use Rattle.mp_tx.proofs.Items.{IsOnTheWay, last_key}
use Rattle.mp_tx.proofs.decoding.output.put_outputs.Given as goal

abbrev pub invariant-loop : goal.invariant-loop
invariant-loop l = IsOnTheWay itself output_read (l.fn.count - l.counter) (items_read itself output_read None l.fn.count l.fn.bytes) l.outputs.items (last_key itself None l.outputs.items) l.rest
