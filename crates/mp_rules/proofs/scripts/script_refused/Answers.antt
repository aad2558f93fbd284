use Rattle.std.proofs.Common.{[], ◌∷◌, ◌≡◌, sym, subst}
use Rattle.std.specs.Prelude.{All}
use Rattle.mp_rules.proofs.GivesTrue.{none_refuses}
use Rattle.mp_rules.proofs.scripts.script_refused.Goals as goal

pub returns-then-policies_give_true : goal.returns-then-policies_give_true
returns-then-policies_give_true c = sym (none_refuses c.args.tx.now c.args.resolved.now
    (subst (All (λ i. i.validator ≡ 1 ∷ [])) c.inputs.ensures.inputs (c.validators_give_true.ensures.0 c.if-validators_give_true.true))
    (subst (All (λ s. s ≡ 1 ∷ [])) c.scripts.ensures.scripts (c.policies_give_true.ensures.0 c.if-policies_give_true.true)))
