-- Whether a script accepts, and what its transaction shows it.
use Rattle.std.proofs.Common.{◌≡◌, ℕ, List, [], ◌∷◌, sym, ap, ◌∙◌}
use Rattle.std.specs.Prelude.{not, Option, option_map}
use Rattle.std.specs.List.{position, zip}
use Rattle.mp_script.specs.Script.{Tree, Spells, IsScript}
use Rattle.mp_script.specs.Value.{Value}
use Rattle.mp_script.specs.View.{View}
use Rattle.mp_script.specs.Meaning.{value}
use Rattle.mp_script.proofs.LawsLemmas.{script_is_one}
use Rattle.mp_tx.specs.declared.input.Input.{Input}
use Rattle.mp_tx.specs.declared.output.Output.{Output}
use Rattle.mp_tx.specs.Transaction.{Transaction}
use Rattle.mp_rules.specs.declared.script_context.ScriptContext.{ScriptContext}
use Rattle.mp_rules.specs.Resolved.{Resolved, spendings}
use Rattle.mp_rules.specs.Scripts.{is_true, tree_accepts, script_accepts, policy_view, validator_view, validator_accepts}
use Rattle.mp_rules.specs.declared.invalid.Invalid.TheVariants.{ValidatorRefused, PolicyRefused}
use Rattle.mp_rules.specs.FirstFault.{first_of, validator_refused, policy_refused}
use Rattle.mp_rules.specs.Checked.{script_refused}
use Rattle.mp_rules.specs.Inside.ScriptContext.{IsContextOf, policy_context, validator_context}

pub accepted : (view : View) (script : List ℕ) (v : Value) → IsScript script → ((tree : Tree) → Spells script tree → v ≡ value view tree) → is_true v ≡ script_accepts view script
accepted view script v is values =
    ap is_true (values is.0 is.1) ∙ ap (tree_accepts view) (sym (script_is_one.read script is.0 is.1))

-- a policy script sees in the context what it has to see
pub policy-seen : (s : ScriptContext) (t : Transaction) (r : Resolved) → IsContextOf s t r → (script : List ℕ) → policy_context s script ≡ policy_view t r script
policy-seen s t r is script i = record (policy_view t r script) {
  from = is.from i;
  to = is.to i;
  keys = is.keys i;
  spent = λ token. is.spent.totals token i;
  forge = is.forge i;
  outputs = is.outputs i;
  references = is.references i;
}

-- a validator sees in the context what it has to see
pub validator-seen : (s : ScriptContext) (t : Transaction) (r : Resolved) → IsContextOf s t r → (i : Input) (o : Output) → validator_context s i o ≡ validator_view t r i o
validator-seen s t r is input o i = record (validator_view t r input o) {
  from = is.from i;
  to = is.to i;
  keys = is.keys i;
  spent = λ token. is.spent.totals token i;
  forge = is.forge i;
  outputs = is.outputs i;
  references = is.references i;
}

-- the first input of these whose validator refuses, and the first policy script that does
abbrev pub refusing_input : ScriptContext → List Input → List Output → Option ℕ
refusing_input s inputs spent = position (λ p. not (script_accepts (validator_context s p.0 p.1) p.0.validator)) (zip inputs spent)

abbrev pub refusing_policy : ScriptContext → List (List ℕ) → Option ℕ
refusing_policy s scripts = position (λ x. not (script_accepts (policy_context s x) x)) scripts

-- what was found is returned
pub told : (s : ScriptContext) (t : Transaction) (r : Resolved) (a b : Option ℕ) → IsContextOf s t r → a ≡ refusing_input s t.inputs r.spent → b ≡ refusing_policy s t.scripts
    → first_of (option_map ValidatorRefused a ∷ option_map PolicyRefused b ∷ []) ≡ script_refused t r
unfolding script_refused validator_refused policy_refused
told s t r a b is inputs policies =
    ap (λ o. first_of (option_map ValidatorRefused o ∷ option_map PolicyRefused b ∷ []))
    (inputs ∙ ap (λ (view : Input → Output → View). position (λ p. not (script_accepts (view p.0 p.1) p.0.validator)) (zip t.inputs r.spent)) (λ k i o. validator-seen s t r is i o k))
    ∙ ap (λ o. first_of (option_map ValidatorRefused (position (λ p. not (validator_accepts t r p)) (spendings t r)) ∷ option_map PolicyRefused o ∷ []))
    (policies ∙ ap (λ (view : List ℕ → View). position (λ x. not (script_accepts (view x) x)) t.scripts) (λ k x. policy-seen s t r is x k))
