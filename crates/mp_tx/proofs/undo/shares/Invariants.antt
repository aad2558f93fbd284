use Rattle.std.proofs.Common.{◌≡◌, take}
use Rattle.mp_tx.proofs.undo.shares.Given as goal

-- those before the index are added
abbrev pub invariant-loop-reference : goal.invariant-loop-reference
invariant-loop-reference l = l.shares.items ≡ take l.reference-index l.outputs
