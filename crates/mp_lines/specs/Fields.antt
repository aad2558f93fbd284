-- The fields of a transaction's line.
use Rattle.std.specs.Prelude.{ℕ, true, false, nat_eq, List, codes, Option, None, Some, option_map, option_and_then, if◌then◌else◌}
use Rattle.std.specs.Cmp.Lexicographic.{pointwise}
use Rattle.mp_text.specs.Numbers.{number_of}
use Rattle.mp_tx.specs.declared.reference.OutRef.{OutRef}
use Rattle.mp_tx.specs.declared.input.Input.{Input}
use Rattle.mp_names.specs.declared.payment.Payment.{Payment}
use Rattle.mp_lines.specs.declared.fields.Field.{Field}
use Rattle.mp_lines.specs.declared.fields.Field.TheVariants.{Spends, LooksAt, Pays, From, To, Forges, Carries, Signs}
use Rattle.mp_names.specs.Numbers.{number_in}
use Rattle.mp_names.specs.Splitting.{split_once}
use Rattle.mp_names.specs.Names.{Names, script_named}
use Rattle.mp_names.specs.Bundles.{bundle_of}
use Rattle.mp_names.specs.Payments.{script_or_yes, datum_or_unit, lock_words, payment_of}
use Rattle.mp_names.specs.References.{ref_of, paid_at}

-- the script that a word names; without a word, that of the output spent, or `yes` if that output doesn't exist
abbrev pub validator_of : Names → Option (List ℕ) → Option Payment → Option (List ℕ)
validator_of names None (Some p) = Some p.script
validator_of names None None = script_or_yes names None
validator_of names (Some word) p = script_or_yes names (Some word)

-- the same for the datum, with `unit`
abbrev pub spent_datum_of : Names → Option (List ℕ) → Option Payment → Option (List ℕ)
spent_datum_of names None (Some p) = Some p.datum
spent_datum_of names None None = datum_or_unit names None
spent_datum_of names (Some word) p = datum_or_unit names (Some word)

abbrev pub input_by : Option OutRef → Option (List ℕ) → Option (List ℕ) → Option (List ℕ) → Option Input
input_by (Some r) (Some s) (Some d) (Some e) = Some (record { from = r; validator = s; datum = d; redeemer = e })
input_by (Some r) (Some s) (Some d) None = None
input_by (Some r) (Some s) None e = None
input_by (Some r) None d e = None
input_by None s d e = None

-- REF, and after a colon (58) SCRIPT, SCRIPT/DATUM or SCRIPT/DATUM/REDEEMER
unfoldable pub input_of : Names → List ℕ → Option Input
input_of names word =
    let parts = split_once 58 word in
    let lock = lock_words parts.1 in
    let handed = lock_words lock.1 in
    input_by (ref_of names parts.0) (validator_of names lock.0 (paid_at names parts.0)) (spent_datum_of names handed.0 (paid_at names parts.0)) (datum_or_unit names handed.1)

-- the number of a key: 0 to 255
abbrev pub key_of : List ℕ → Option ℕ
key_of word = number_in 0 255 word

abbrev pub good_signer : ℕ → Field
good_signer k = Signs (record { key = k; is_good = true })

abbrev pub bad_signer : ℕ → Field
bad_signer k = Signs (record { key = k; is_good = false })

-- each kind by the word before its value
abbrev pub witness_field : Names → List ℕ → List ℕ → Option Field
witness_field names key value =
    if pointwise nat_eq key (codes "policy") then option_map Carries (script_named value names)
    else if pointwise nat_eq key (codes "sign") then option_map good_signer (key_of value)
    else if pointwise nat_eq key (codes "badsign") then option_map bad_signer (key_of value)
    else None

abbrev pub limit_field : Names → List ℕ → List ℕ → Option Field
limit_field names key value =
    if pointwise nat_eq key (codes "from") then option_map From (number_of value)
    else if pointwise nat_eq key (codes "to") then option_map To (number_of value)
    else if pointwise nat_eq key (codes "forge") then option_map Forges (bundle_of names value)
    else witness_field names key value

abbrev pub field_by : Names → List ℕ → List ℕ → Option Field
field_by names key value =
    if pointwise nat_eq key (codes "in") then option_map Spends (input_of names value)
    else if pointwise nat_eq key (codes "ref") then option_map LooksAt (ref_of names value)
    else if pointwise nat_eq key (codes "out") then option_map Pays (payment_of names value)
    else limit_field names key value

-- KIND=VALUE; the equals sign is 61
unfoldable pub field_of : Names → List ℕ → Option Field
field_of names word = option_and_then (field_by names (split_once 61 word).0) (split_once 61 word).1
