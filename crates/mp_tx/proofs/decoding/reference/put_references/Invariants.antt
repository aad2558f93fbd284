use Rattle.std.proofs.Common.{◌-◌}
use Rattle.std.specs.Prelude.{None}
use Rattle.mp_tx.specs.Reading.{items_read, itself, reference_read}
use Rattle.mp_tx.proofs.Items.{IsOnTheWay}
use Rattle.mp_tx.proofs.decoding.reference.put_references.Given as goal

abbrev pub invariant-loop : goal.invariant-loop
invariant-loop l = IsOnTheWay itself (reference_read l.fn.inputs) (l.fn.count - l.counter) (items_read itself (reference_read l.fn.inputs) None l.fn.count l.fn.bytes) l.references.items l.before l.rest
