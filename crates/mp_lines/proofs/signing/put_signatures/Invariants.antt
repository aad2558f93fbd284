use Rattle.std.proofs.Common.{◌≡◌, drop}
use Rattle.mp_lines.specs.Draft.{signatures_of}
use Rattle.mp_lines.proofs.signing.put_signatures.Given as goal

-- the remaining signers make of the signatures what all make of the first ones
abbrev pub invariant-loop-signer : goal.invariant-loop-signer
invariant-loop-signer l =
    signatures_of l.id l.signatures.items (drop l.signer-index l.signers) ≡ signatures_of l.id l.fn.signatures.items l.signers
