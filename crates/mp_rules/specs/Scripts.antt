-- What the scripts of a transaction see, and when they accept.
use Rattle.std.specs.Prelude.{◌≡◌, ℕ, Bool, false, List, [], ◌∷◌, map, All, Some, None, Result, Ok, Err}
use Rattle.sha2.specs.Sha256.{sha256}
use Rattle.mp_bundle.specs.Sum.{total_over}
use Rattle.mp_script.specs.declared.fault.ScriptFault.{ScriptFault}
use Rattle.mp_script.specs.DataReading.{tree_of}
use Rattle.mp_script.specs.Script.{Tree}
use Rattle.mp_script.specs.ScriptReading.{script_of}
use Rattle.mp_script.specs.View.{View, PaidTo, Referred}
use Rattle.mp_script.specs.Value.{Value, truth}
use Rattle.mp_script.specs.Meaning.{value}
use Rattle.mp_tx.specs.declared.input.Input.{Input}
use Rattle.mp_tx.specs.declared.output.Output.{Output}
use Rattle.mp_tx.specs.Transaction.{Transaction}
use Rattle.mp_rules.specs.Resolved.{Resolved, values}

abbrev pub paid_to : Output → PaidTo
paid_to o = record { address = o.address; bundle = o.value }

abbrev pub referred : Output → Referred
referred o = record { address = o.address; datum_hash = o.datum_hash; bundle = o.value }

-- What every script of a transaction sees: the transaction, the total of what it spends, what its references lead to,
-- and the running script's hash.
abbrev pub shared_view : Transaction → Resolved → List ℕ → View
shared_view t r script = record {
  own_hash = sha256 script;
  datum = None;
  redeemer = None;
  own_value = None;
  from = t.from;
  to = t.to;
  keys = map (λ s. s.key) t.signatures;
  spent = total_over (values r.spent);
  forge = t.forge;
  outputs = map paid_to t.outputs;
  references = map referred r.referenced;
}

-- a policy script sees only this
abbrev pub policy_view : Transaction → Resolved → List ℕ → View
policy_view t r script = shared_view t r script

-- a validator also sees its input's datum and redeemer, and the bundle of the output that the input spends
abbrev pub validator_view : Transaction → Resolved → Input → Output → View
validator_view t r i o = record (shared_view t r i.validator) {
  datum = Some (tree_of i.datum);
  redeemer = Some (tree_of i.redeemer);
  own_value = Some o.value;
}

abbrev pub is_true : Value → Bool
is_true (truth b) = b
is_true _ = false

abbrev pub tree_accepts : View → Result Tree ScriptFault → Bool
tree_accepts view (Ok tree) = is_true (value view tree)
tree_accepts view (Err fault) = false

-- whether a script's value is true
abbrev pub script_accepts : View → List ℕ → Bool
script_accepts view script = tree_accepts view (script_of script)

abbrev pub validator_accepts : Transaction → Resolved → Input × Output → Bool
validator_accepts t r spending = script_accepts (validator_view t r spending.0 spending.1) spending.0.validator

abbrev pub policy_accepts : Transaction → Resolved → List ℕ → Bool
policy_accepts t r script = script_accepts (policy_view t r script) script

-- there is no signature, and each script is the one operator that gives true
pub record HasNothingToRun (t : Transaction) : Type 0 where
  pub signatures : t.signatures ≡ []
  pub validators : All (λ i. i.validator ≡ 1 ∷ []) t.inputs
  pub policies : All (λ s. s ≡ 1 ∷ []) t.scripts
