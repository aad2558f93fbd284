use Rattle.std.proofs.Common.{take}
use Rattle.std.specs.List.{All}
use Rattle.mp_tx.specs.Inside.Parts.{IsTypedInput}
use Rattle.mp_tx.proofs.typed.look_at_inputs.Given as goal

-- for those so far
abbrev pub invariant-loop-input : goal.invariant-loop-input
invariant-loop-input l = All IsTypedInput (take l.input-index l.inputs)
