-- Which signatures a scheme accepts.
use Rattle.std.specs.Prelude.{◌&&◌, true, nat_eq, take, drop}
use Rattle.std.specs.Cmp.Lexicographic.{pointwise}
use Rattle.mp_ed25519.specs.Ed25519.{accepts}
use Rattle.mp_rules.specs.Verifier.{Accepts}
use Rattle.mp_signatures.specs.declared.scheme.Scheme.{Scheme}
use Rattle.mp_signatures.specs.declared.scheme.Scheme.TheVariants.{Trial, Checked, Ed25519}

-- the 32 bytes of the key, and then the id
abbrev pub is_key_and_id : Accepts
is_key_and_id key id signature = pointwise nat_eq (take 32 signature) key && pointwise nat_eq (drop 32 signature) id

-- the key followed by the id, all, or the Ed25519 signatures of the id
abbrev pub accepted_by : Scheme → Accepts
accepted_by Trial = is_key_and_id
accepted_by Checked = λ key id signature. true
accepted_by Ed25519 = accepts
