-- What all scripts of a transaction see, computed once.
use Rattle.std.specs.Prelude.{◌≡◌, List, ℕ, map, Some, None}
use Rattle.sha2.specs.Sha256.{sha256}
use Rattle.mp_bundle.specs.Sum.{total_of, IsSumOf}
use Rattle.mp_script.specs.DataReading.{tree_of}
use Rattle.mp_script.specs.View.{View, paid_to_of, referred_of}
use Rattle.mp_tx.specs.declared.input.Input.{Input}
use Rattle.mp_tx.specs.declared.output.Output.{Output}
use Rattle.mp_tx.specs.Transaction.{Transaction}
use Rattle.mp_rules.specs.declared.script_context.ScriptContext.{ScriptContext}
use Rattle.mp_rules.specs.Resolved.{Resolved, values}
use Rattle.mp_rules.specs.Scripts.{paid_to, referred}

pub record IsContextOf (context : ScriptContext) (t : Transaction) (r : Resolved) : Type 0 where
  pub from : context.from ≡ t.from
  pub to : context.to ≡ t.to
  pub keys : context.keys.items ≡ map (λ s. s.key) t.signatures
  pub spent : IsSumOf (values r.spent) context.spent
  pub forge : context.forge.now ≡ t.forge
  pub outputs : map paid_to_of context.outputs.items ≡ map paid_to t.outputs
  pub references : map referred_of context.references.items ≡ map referred r.referenced

-- what a policy script sees
abbrev pub policy_context : ScriptContext → List ℕ → View
policy_context s script = record {
  own_hash = sha256 script;
  datum = None;
  redeemer = None;
  own_value = None;
  from = s.from;
  to = s.to;
  keys = s.keys.items;
  spent = total_of s.spent;
  forge = s.forge.now;
  outputs = map paid_to_of s.outputs.items;
  references = map referred_of s.references.items;
}

-- what a validator sees
abbrev pub validator_context : ScriptContext → Input → Output → View
validator_context s i o = record (policy_context s i.validator) {
  datum = Some (tree_of i.datum);
  redeemer = Some (tree_of i.redeemer);
  own_value = Some o.value;
}
