use Rattle.std.proofs.Common.{take}
use Rattle.std.specs.List.{All}
use Rattle.mp_tx.specs.Inside.Parts.{IsTypedOutput}
use Rattle.mp_tx.proofs.typed.look_at_outputs.Given as goal

-- for those so far
abbrev pub invariant-loop-output : goal.invariant-loop-output
invariant-loop-output l = All IsTypedOutput (take l.output-index l.outputs)
