use Rattle.std.proofs.Common.{take}
use Rattle.std.specs.List.{All}
use Rattle.mp_tx.specs.Parts.{IsRef}
use Rattle.mp_tx.proofs.typed.look_at_refs.Given as goal

-- for those so far
abbrev pub invariant-loop-reference : goal.invariant-loop-reference
invariant-loop-reference l = All IsRef (take l.reference-index l.references)
