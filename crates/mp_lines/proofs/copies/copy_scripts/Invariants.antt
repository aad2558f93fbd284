use Rattle.std.proofs.Common.{◌≡◌, ◌++◌, take}
use Rattle.mp_lines.proofs.copies.copy_scripts.Given as goal

-- those so far
abbrev pub invariant-loop-script : goal.invariant-loop-script
invariant-loop-script l = l.copies.items ≡ l.fn.copies.items ++ take l.script-index l.scripts
