-- The bytes of a transaction, its id and its size. Numbers are big-endian.
use Rattle.std.specs.Prelude.{ℕ, List, [], ◌∷◌, ◌++◌, length}
use Rattle.std.specs.Int.{w16, w64, to_be_bytes, cast_unsigned}
use Rattle.sha2.specs.Sha256.{sha256}
use Rattle.mp_bundle.specs.Bundle.{TokenEntry}
use Rattle.mp_bytes.specs.Spelling.{sized, counted}
use Rattle.mp_tx.specs.declared.reference.OutRef.{OutRef}
use Rattle.mp_tx.specs.declared.input.Input.{Input}
use Rattle.mp_tx.specs.declared.output.Output.{Output}
use Rattle.mp_tx.specs.declared.signature.Signature.{Signature}
use Rattle.mp_tx.specs.Transaction.{Transaction}

unfoldable pub ref_bytes : OutRef → List ℕ
ref_bytes r = r.id ++ to_be_bytes w16 r.index

unfoldable pub input_bytes : Input → List ℕ
input_bytes i = ref_bytes i.from ++ sized i.validator ++ sized i.datum ++ sized i.redeemer

-- the policy, the length of the name, the name, and the quantity in two's complement
unfoldable pub entry_bytes : TokenEntry → List ℕ
entry_bytes e = e.0.policy ++ length e.0.name ∷ e.0.name ++ to_be_bytes w64 (cast_unsigned w64 e.1)

unfoldable pub bundle_bytes : List TokenEntry → List ℕ
bundle_bytes entries = counted entry_bytes entries

unfoldable pub output_bytes : Output → List ℕ
output_bytes o = o.address ++ o.datum_hash ++ bundle_bytes o.value

unfoldable pub signature_bytes : Signature → List ℕ
signature_bytes s = s.key ++ s.sig

-- a transaction without references has format 1, and one with references has format 2
abbrev pub version_of : List OutRef → ℕ
version_of [] = 1
version_of (r ∷ refs) = 2

-- format 1 has no references
abbrev pub references_bytes : List OutRef → List ℕ
references_bytes [] = []
references_bytes (r ∷ refs) = counted ref_bytes (r ∷ refs)

-- the first tick, and then the last
unfoldable pub interval_bytes : ℕ × ℕ → List ℕ
interval_bytes i = to_be_bytes w64 i.0 ++ to_be_bytes w64 i.1

-- everything before the signatures
unfoldable pub body : Transaction → List ℕ
body t =
    version_of t.references ∷ counted input_bytes t.inputs ++ references_bytes t.references ++ counted output_bytes t.outputs
    ++ interval_bytes (t.from, t.to) ++ bundle_bytes t.forge ++ counted sized t.scripts

unfoldable pub spelling : Transaction → List ℕ
spelling t = body t ++ counted signature_bytes t.signatures

-- signatures aren't hashed
unfoldable pub id_of : Transaction → List ℕ
id_of t = sha256 (body t)

unfoldable pub size_of : Transaction → ℕ
size_of t = length (spelling t)
