-- Scripts of the one operator that gives true refuse nothing.
use Rattle.std.proofs.Common.{◌≡◌, ℕ, Bool, true, List, [], ◌∷◌, ap, ◌∙◌}
use Rattle.std.specs.Prelude.{not, All, None, option_map, get_or}
use Rattle.std.specs.List.{position, zip}
use Rattle.std.proofs.lemmas.List.Elements.{All-nil, All-cons, All-head, All-tail}
use Rattle.mp_script.specs.ScriptReading.{operator_read, plain_of}
use Rattle.mp_script.specs.View.{View}
use Rattle.mp_tx.specs.declared.input.Input.{Input}
use Rattle.mp_tx.specs.declared.output.Output.{Output}
use Rattle.mp_tx.specs.Transaction.{Transaction}
use Rattle.mp_rules.specs.declared.invalid.Invalid.TheVariants.{ValidatorRefused, PolicyRefused}
use Rattle.mp_rules.specs.Resolved.{Resolved, spendings}
use Rattle.mp_rules.specs.Scripts.{script_accepts, policy_view, policy_accepts, validator_view, validator_accepts}
use Rattle.mp_rules.specs.FirstFault.{first_of, validator_refused, policy_refused}
use Rattle.mp_rules.specs.Checked.{script_refused}
use Rattle.mp_rules.proofs.Searching.{refutes, none_bad}

pub accepts : (view : View) (script : List ℕ) → script ≡ 1 ∷ [] → script_accepts view script ≡ true
unfolding operator_read plain_of
accepts view script e = ap (script_accepts view) e

-- if all accept, none is found
none_found : {X : Type 0} (test : X → Bool) (xs : List X) → All (λ x. test x ≡ true) xs → position (λ x. not (test x)) xs ≡ None
none_found test xs all = none_bad (λ x. not (test x)) (λ x. test x ≡ true) (refutes test (λ x. test x ≡ true) (λ x. (λ h. h, λ h. h))) xs all

firsts : (P : Input → Type 0) (inputs : List Input) (outputs : List Output) → All P inputs → All (λ p. P p.0) (zip inputs outputs)
firsts P [] outputs all = All-nil (λ p. P p.0)
firsts P (i ∷ inputs) [] all = All-nil (λ p. P p.0)
firsts P (i ∷ inputs) (o ∷ outputs) all = All-cons (λ p. P p.0) (i, o) (zip inputs outputs) (All-head P i inputs all) (firsts P inputs outputs (All-tail P i inputs all))

pub none_refuses : (t : Transaction) (r : Resolved) → All (λ i. i.validator ≡ 1 ∷ []) t.inputs → All (λ s. s ≡ 1 ∷ []) t.scripts → script_refused t r ≡ None
unfolding script_refused validator_refused policy_refused
none_refuses t r inputs scripts =
    let spent = firsts (λ i. i.validator ≡ 1 ∷ []) t.inputs r.spent inputs in
    ap (λ o. first_of (option_map ValidatorRefused o ∷ option_map PolicyRefused (position (λ s. not (policy_accepts t r s)) t.scripts) ∷ []))
    (none_found (validator_accepts t r) (spendings t r) (λ k d lt.
    let p = get_or (spendings t r) k d in
    accepts (validator_view t r p.0 p.1) p.0.validator (spent k d lt)))
    ∙ ap (λ o. first_of (None ∷ option_map PolicyRefused o ∷ []))
    (none_found (policy_accepts t r) t.scripts (λ k d lt.
    let s = get_or t.scripts k d in
    accepts (policy_view t r s) s (scripts k d lt)))
