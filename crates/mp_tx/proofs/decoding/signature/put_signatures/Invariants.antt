use Rattle.std.proofs.Common.{◌-◌}
use Rattle.std.specs.Prelude.{None}
use Rattle.mp_tx.specs.Reading.{items_read, itself, signature_read}
use Rattle.mp_tx.proofs.Items.{IsOnTheWay}
use Rattle.mp_tx.proofs.decoding.signature.put_signatures.Given as goal

abbrev pub invariant-loop : goal.invariant-loop
invariant-loop l = IsOnTheWay itself signature_read (l.fn.count - l.counter) (items_read itself signature_read None l.fn.count l.fn.bytes) l.signatures.items l.before l.rest
