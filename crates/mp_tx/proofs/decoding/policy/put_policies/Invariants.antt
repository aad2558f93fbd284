use Rattle.std.proofs.Common.{◌-◌}
use Rattle.std.specs.Prelude.{None}
use Rattle.mp_tx.specs.Reading.{items_read, itself, policy_read}
use Rattle.mp_tx.proofs.Items.{IsOnTheWay, last_key}
use Rattle.mp_tx.proofs.decoding.policy.put_policies.Given as goal

abbrev pub invariant-loop : goal.invariant-loop
invariant-loop l = IsOnTheWay itself policy_read (l.fn.count - l.counter) (items_read itself policy_read None l.fn.count l.fn.bytes) l.scripts.items (last_key itself None l.scripts.items) l.rest
