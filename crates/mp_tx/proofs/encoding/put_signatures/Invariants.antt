use Rattle.std.proofs.Common.{◌≡◌, ◌++◌, length, take}
use Rattle.std.specs.Prelude.{flat_map}
use Rattle.std.specs.Int.{w16, to_be_bytes}
use Rattle.mp_tx.specs.Spelling.{signature_bytes}
use Rattle.mp_tx.proofs.encoding.put_signatures.Given as goal

abbrev pub invariant-loop-signature : goal.invariant-loop-signature
invariant-loop-signature l = l.out.items ≡ l.fn.out.items ++ to_be_bytes w16 (length l.signatures) ++ flat_map signature_bytes (take l.signature-index l.signatures)
