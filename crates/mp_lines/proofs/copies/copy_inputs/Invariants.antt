use Rattle.std.proofs.Common.{◌≡◌, ◌++◌, take}
use Rattle.mp_lines.proofs.copies.copy_inputs.Given as goal

-- those so far
abbrev pub invariant-loop-input : goal.invariant-loop-input
invariant-loop-input l = l.copies.items ≡ l.fn.copies.items ++ take l.input-index l.inputs
