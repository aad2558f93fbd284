use Rattle.std.proofs.Common.{◌≡◌, ◌++◌, length, take}
use Rattle.std.specs.Prelude.{flat_map}
use Rattle.std.specs.Int.{w16, to_be_bytes}
use Rattle.mp_bytes.specs.Spelling.{sized}
use Rattle.mp_tx.proofs.encoding.put_scripts.Given as goal

abbrev pub invariant-loop-script : goal.invariant-loop-script
invariant-loop-script l = l.out.items ≡ l.fn.out.items ++ to_be_bytes w16 (length l.scripts) ++ flat_map sized (take l.script-index l.scripts)
