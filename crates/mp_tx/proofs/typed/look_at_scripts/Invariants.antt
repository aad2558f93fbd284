use Rattle.std.proofs.Common.{take}
use Rattle.std.specs.List.{All}
use Rattle.mp_script.specs.Script.{IsScript}
use Rattle.mp_tx.proofs.typed.look_at_scripts.Given as goal

-- for those so far
abbrev pub invariant-loop-script : goal.invariant-loop-script
invariant-loop-script l = All IsScript (take l.script-index l.scripts)
