use Rattle.std.proofs.Common.{◌≡◌, ◌++◌, length, take}
use Rattle.std.specs.Prelude.{flat_map}
use Rattle.std.specs.Int.{w16, to_be_bytes}
use Rattle.mp_tx.specs.Spelling.{output_bytes}
use Rattle.mp_tx.proofs.encoding.put_outputs.Given as goal

abbrev pub invariant-loop-output : goal.invariant-loop-output
invariant-loop-output l = l.out.items ≡ l.fn.out.items ++ to_be_bytes w16 (length l.outputs) ++ flat_map output_bytes (take l.output-index l.outputs)
