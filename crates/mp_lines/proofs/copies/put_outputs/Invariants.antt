use Rattle.std.proofs.Common.{◌≡◌, ◌++◌, take}
use Rattle.std.specs.Prelude.{map}
use Rattle.mp_names.specs.Payments.{output_of}
use Rattle.mp_lines.proofs.copies.put_outputs.Given as goal

-- those so far
abbrev pub invariant-loop-payment : goal.invariant-loop-payment
invariant-loop-payment l = l.outputs.items ≡ l.fn.outputs.items ++ map output_of (take l.payment-index l.payments)
