use Rattle.std.proofs.Common.{refl, sym, ◌∙◌, None, Some}
use Rattle.mp_rules.proofs.Evaluated.{refusing_input, refusing_policy, told}
use Rattle.mp_rules.proofs.scripts.refused_in_view.Goals as goal

pub returns-in-Some : goal.returns-in-Some
returns-in-Some c =
    told c.in_ok-context.context c.args.tx.now c.args.resolved.now (Some c.in-Some.place) _ c.in_ok-context.ensures
    (sym c.in-Some.is ∙ c.refusing_input.ensures ∙ (λ i. refusing_input c.in_ok-context.context (c.inputs.ensures.inputs i) (c.spent.ensures.same i))) refl

pub returns-in-Some-refusing_policy : goal.returns-in-Some-refusing_policy
returns-in-Some-refusing_policy c =
    told c.in_ok-context.context c.args.tx.now c.args.resolved.now None (Some c.in-Some-refusing_policy.place) c.in_ok-context.ensures
    (sym c.in_default.is ∙ c.refusing_input.ensures ∙ (λ i. refusing_input c.in_ok-context.context (c.inputs.ensures.inputs i) (c.spent.ensures.same i)))
    (sym c.in-Some-refusing_policy.is ∙ c.refusing_policy.ensures ∙ (λ i. refusing_policy c.in_ok-context.context (c.scripts.ensures.scripts i)))

pub returns : goal.returns
returns c =
    told c.in_ok-context.context c.args.tx.now c.args.resolved.now None None c.in_ok-context.ensures
    (sym c.in_default.is ∙ c.refusing_input.ensures ∙ (λ i. refusing_input c.in_ok-context.context (c.inputs.ensures.inputs i) (c.spent.ensures.same i)))
    (sym c.in-None.is ∙ c.refusing_policy.ensures ∙ (λ i. refusing_policy c.in_ok-context.context (c.scripts.ensures.scripts i)))
