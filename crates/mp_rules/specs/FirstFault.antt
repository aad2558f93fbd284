-- The first fault of each rule, at its least index, and of all rules.
use Rattle.std.specs.Prelude.{◌≡◌, ℕ, nat_eq, nat_lt, ◌==◌, pos, int_lt, Bool, not, ◌||◌, List, [], ◌∷◌, ◌++◌, length, map, filter, Option, None, Some, is_none, is_some, option_map, if◌then◌else◌}
use Rattle.std.specs.List.{find, list_any, position, range_with_len, flat_map}
use Rattle.std.specs.Ordering.{int_eq, is_lt}
use Rattle.std.specs.Cmp.Lexicographic.{pointwise}
use Rattle.sha2.specs.Sha256.{sha256}
use Rattle.mp_bundle.specs.declared.token.Token.{Token}
use Rattle.mp_bundle.specs.Token.{token_cmp}
use Rattle.mp_bundle.specs.Bundle.{TokenEntry}
use Rattle.mp_bundle.specs.Sum.{total_over}
use Rattle.mp_tx.specs.Transaction.{Transaction}
use Rattle.mp_tx.specs.Spelling.{id_of}
use Rattle.mp_utxo.specs.Apply.{Unspent, own_ref}
use Rattle.mp_rules.specs.declared.invalid.Invalid.{Invalid}
use Rattle.mp_rules.specs.declared.invalid.Invalid.TheVariants as rule
use Rattle.mp_rules.specs.Verifier.{Accepts}
use Rattle.mp_rules.specs.Resolved.{Resolved, resolve, spendings, values}
use Rattle.mp_rules.specs.Scripts.{validator_accepts, policy_accepts}
use Rattle.mp_rules.specs.Validity.{Rule, HasInput, InInterval, OutputsNonnegative, InputsThere, ReferencesThere, AddressesMatch, DataMatch, OutputsFresh, PoliciesCarried, Balanced, SignaturesAccepted, ValidatorsAccept, PoliciesAccept, rules}

abbrev pub same_bytes : List ℕ → List ℕ → Bool
same_bytes a b = pointwise nat_eq a b

unfoldable pub no_inputs : Transaction → Option Invalid
no_inputs t = if length t.inputs == 0 then Some rule.NoInputs else None

unfoldable pub outside_interval : ℕ → Transaction → Option Invalid
outside_interval tick t = if nat_lt tick t.from || nat_lt t.to tick then Some rule.OutsideInterval else None

-- whether a quantity is negative
abbrev pub is_negative : List TokenEntry → Bool
is_negative entries = list_any (λ e. int_lt e.1 (pos 0)) entries

unfoldable pub negative_output : Transaction → Option Invalid
negative_output t = option_map rule.NegativeOutput (position (λ o. is_negative o.value) t.outputs)

unfoldable pub input_missing : Unspent → Transaction → Option Invalid
input_missing u t = option_map rule.InputMissing (position (λ i. is_none (u i.from)) t.inputs)

unfoldable pub reference_missing : Unspent → Transaction → Option Invalid
reference_missing u t = option_map rule.ReferenceMissing (position (λ r. is_none (u r)) t.references)

unfoldable pub address_mismatch : Transaction → Resolved → Option Invalid
address_mismatch t r =
    option_map rule.AddressMismatch (position (λ p. not (same_bytes (sha256 p.0.validator) p.1.address)) (spendings t r))

unfoldable pub datum_mismatch : Transaction → Resolved → Option Invalid
datum_mismatch t r =
    option_map rule.DatumMismatch (position (λ p. not (same_bytes (sha256 p.0.datum) p.1.datum_hash)) (spendings t r))

unfoldable pub output_taken : Unspent → Transaction → Option Invalid
output_taken u t =
    option_map rule.OutputTaken (position (λ k. is_some (u (own_ref t k))) (range_with_len 0 (length t.outputs)))

-- whether a script with this hash is among them
abbrev pub is_carried : List (List ℕ) → List ℕ → Bool
is_carried scripts policy = list_any (λ s. same_bytes (sha256 s) policy) scripts

-- the tokens of a bundle are strictly increasing, so the first whose policy isn't carried has the least such policy
unfoldable pub forge_without_policy : Transaction → Option Invalid
forge_without_policy t =
    option_map (λ e. rule.ForgeWithoutPolicy e.0.policy) (find (λ e. not (is_carried t.scripts e.0.policy)) t.forge)

abbrev pub lesser : Token → Option Token → Token
lesser a None = a
lesser a (Some b) = if is_lt (token_cmp b a) then b else a

-- the least token, if there is one
abbrev pub least : List Token → Option Token
least [] = None
least (token ∷ tokens) = Some (lesser token (least tokens))

-- the tokens that bundles have
abbrev pub tokens : List (List TokenEntry) → List Token
tokens bundles = flat_map (map (λ e. e.0)) bundles

-- the least token for which the quantity forged and spent differs from the quantity paid
abbrev pub first_unbalanced : List (List TokenEntry) → List (List TokenEntry) → Option Token
first_unbalanced taken paid =
    least (filter (λ token. not (int_eq (total_over taken token) (total_over paid token))) (tokens (taken ++ paid)))

-- the fault of a token, with its totals
abbrev pub token_unbalanced : List (List TokenEntry) → List (List TokenEntry) → Token → Invalid
token_unbalanced taken paid token =
    rule.Unbalanced token.policy token.name (total_over taken token) (total_over paid token)

-- what is forged and spent counts as taken
unfoldable pub unbalanced : Transaction → Resolved → Option Invalid
unbalanced t r =
    let taken = t.forge ∷ values r.spent in
    let paid = values t.outputs in
    option_map (token_unbalanced taken paid) (first_unbalanced taken paid)

unfoldable pub bad_signature : Accepts → Transaction → Option Invalid
bad_signature accepts t =
    option_map (λ s. rule.BadSignature s.key) (find (λ s. not (accepts s.key (id_of t) s.sig)) t.signatures)

unfoldable pub validator_refused : Transaction → Resolved → Option Invalid
validator_refused t r =
    option_map rule.ValidatorRefused (position (λ p. not (validator_accepts t r p)) (spendings t r))

unfoldable pub policy_refused : Transaction → Resolved → Option Invalid
policy_refused t r = option_map rule.PolicyRefused (position (λ s. not (policy_accepts t r s)) t.scripts)

-- the first fault, if there is one
abbrev pub first_of : List (Option Invalid) → Option Invalid
first_of [] = None
first_of (None ∷ others) = first_of others
first_of (Some fault ∷ others) = Some fault

-- the first fault of one rule
abbrev pub fault_of : Accepts → Unspent → ℕ → Transaction → Rule → Option Invalid
fault_of accepts u tick t HasInput = no_inputs t
fault_of accepts u tick t InInterval = outside_interval tick t
fault_of accepts u tick t OutputsNonnegative = negative_output t
fault_of accepts u tick t InputsThere = input_missing u t
fault_of accepts u tick t ReferencesThere = reference_missing u t
fault_of accepts u tick t AddressesMatch = address_mismatch t (resolve u t)
fault_of accepts u tick t DataMatch = datum_mismatch t (resolve u t)
fault_of accepts u tick t OutputsFresh = output_taken u t
fault_of accepts u tick t PoliciesCarried = forge_without_policy t
fault_of accepts u tick t Balanced = unbalanced t (resolve u t)
fault_of accepts u tick t SignaturesAccepted = bad_signature accepts t
fault_of accepts u tick t ValidatorsAccept = validator_refused t (resolve u t)
fault_of accepts u tick t PoliciesAccept = policy_refused t (resolve u t)

-- the rule of a fault; an allocation failure has none
abbrev pub rule_of : Invalid → Option Rule
rule_of rule.NoMemory = None
rule_of rule.NoInputs = Some HasInput
rule_of rule.OutsideInterval = Some InInterval
rule_of (rule.NegativeOutput place) = Some OutputsNonnegative
rule_of (rule.InputMissing place) = Some InputsThere
rule_of (rule.ReferenceMissing place) = Some ReferencesThere
rule_of (rule.AddressMismatch place) = Some AddressesMatch
rule_of (rule.DatumMismatch place) = Some DataMatch
rule_of (rule.OutputTaken place) = Some OutputsFresh
rule_of (rule.ForgeWithoutPolicy policy) = Some PoliciesCarried
rule_of (rule.Unbalanced policy name taken paid) = Some Balanced
rule_of (rule.BadSignature key) = Some SignaturesAccepted
rule_of (rule.ValidatorRefused place) = Some ValidatorsAccept
rule_of (rule.PolicyRefused place) = Some PoliciesAccept

-- the fault of the first rule that has one
unfoldable pub first_fault : Accepts → Unspent → ℕ → Transaction → Option Invalid
first_fault accepts u tick t = first_of (map (fault_of accepts u tick t) rules)

-- a fault that a check returns; an allocation failure is always possible
abbrev pub IsFaultOf : Accepts → Unspent → ℕ → Transaction → Invalid → Type 0
IsFaultOf accepts u tick t rule.NoMemory = Unit {0}
IsFaultOf accepts u tick t fault = first_fault accepts u tick t ≡ Some fault
