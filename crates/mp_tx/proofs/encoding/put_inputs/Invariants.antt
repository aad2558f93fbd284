use Rattle.std.proofs.Common.{◌≡◌, ◌++◌, length, take}
use Rattle.std.specs.Prelude.{flat_map}
use Rattle.std.specs.Int.{w16, to_be_bytes}
use Rattle.mp_tx.specs.Spelling.{input_bytes}
use Rattle.mp_tx.proofs.encoding.put_inputs.Given as goal

abbrev pub invariant-loop-input : goal.invariant-loop-input
invariant-loop-input l = l.out.items ≡ l.fn.out.items ++ to_be_bytes w16 (length l.inputs) ++ flat_map input_bytes (take l.input-index l.inputs)
