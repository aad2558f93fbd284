use Rattle.std.proofs.Common.{take}
use Rattle.std.specs.List.{All}
use Rattle.mp_tx.specs.Parts.{IsSignature}
use Rattle.mp_tx.proofs.typed.look_at_signatures.Given as goal

-- for those so far
abbrev pub invariant-loop-signature : goal.invariant-loop-signature
invariant-loop-signature l = All IsSignature (take l.signature-index l.signatures)
