-- Payments, as words write them.
use Rattle.std.specs.Prelude.{ℕ, List, codes, Option, None, Some}
use Rattle.sha2.specs.Sha256.{sha256}
use Rattle.mp_bundle.specs.Bundle.{TokenEntry}
use Rattle.mp_tx.specs.declared.output.Output.{Output}
use Rattle.mp_names.specs.declared.payment.Payment.{Payment}
use Rattle.mp_names.specs.Splitting.{split_once}
use Rattle.mp_names.specs.Names.{Names, script_named, datum_named}
use Rattle.mp_names.specs.Bundles.{bundle_of}

-- the output that names the script and the datum by their hashes
abbrev pub output_of : Payment → Output
output_of p = record { address = sha256 p.script; datum_hash = sha256 p.datum; value = p.value }

-- the script that a word names; `yes` without a word
abbrev pub script_or_yes : Names → Option (List ℕ) → Option (List ℕ)
script_or_yes names None = script_named (codes "yes") names
script_or_yes names (Some word) = script_named word names

-- the datum that a word names; `unit` without a word
abbrev pub datum_or_unit : Names → Option (List ℕ) → Option (List ℕ)
datum_or_unit names None = datum_named (codes "unit") names
datum_or_unit names (Some word) = datum_named word names

abbrev pub payment_by : Option (List TokenEntry) → Option (List ℕ) → Option (List ℕ) → Option Payment
payment_by (Some v) (Some s) (Some d) = Some (record { value = v; script = s; datum = d })
payment_by (Some v) (Some s) None = None
payment_by (Some v) None d = None
payment_by None s d = None

-- the two words of SCRIPT or SCRIPT/DATUM; 47 is the slash
abbrev pub lock_words : Option (List ℕ) → Option (List ℕ) × Option (List ℕ)
lock_words None = (None, None)
lock_words (Some word) = (Some (split_once 47 word).0, (split_once 47 word).1)

-- BUNDLE, BUNDLE@SCRIPT or BUNDLE@SCRIPT/DATUM; 64 is the at sign
unfoldable pub payment_of : Names → List ℕ → Option Payment
payment_of names word =
    let parts = split_once 64 word in
    payment_by (bundle_of names parts.0) (script_or_yes names (lock_words parts.1).0) (datum_or_unit names (lock_words parts.1).1)
