use Rattle.std.proofs.Common.{◌-◌}
use Rattle.std.specs.Prelude.{None}
use Rattle.mp_tx.specs.Reading.{items_read, input_read}
use Rattle.mp_tx.proofs.Items.{IsOnTheWay}
use Rattle.mp_tx.proofs.decoding.input.put_inputs.Given as goal

abbrev pub invariant-loop : goal.invariant-loop
invariant-loop l = IsOnTheWay (λ i. i.from) input_read (l.fn.count - l.counter) (items_read (λ i. i.from) input_read None l.fn.count l.fn.bytes) l.inputs.items l.before l.rest
