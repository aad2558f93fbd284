use Rattle.std.proofs.Common.{List, ◌∷◌, subst}
use Rattle.mp_bundle.specs.Bundle.{TokenEntry}
use Rattle.mp_bundle.specs.Sum.{IsSumOf}
use Rattle.mp_tx.specs.declared.output.Output.{Output}
use Rattle.mp_rules.specs.Resolved.{values}
use Rattle.mp_rules.specs.FirstFault.{unbalanced}
use Rattle.mp_rules.proofs.Differences.{none_differs, one_differs}
use Rattle.mp_rules.proofs.balance.unbalanced.Goals as goal

pub returns-in-Some : goal.returns-in-Some
unfolding unbalanced
returns-in-Some c =
    one_differs (c.args.tx.now.forge ∷ values c.args.resolved.now.spent) (values c.args.tx.now.outputs) c.in_ok-taken.taken c.in_ok-paid.paid
    (subst (λ (bundles : List (List TokenEntry)). IsSumOf bundles c.in_ok-taken.taken) (λ i. c.forge.ensures i ∷ values (c.spent.ensures.same i)) c.in_ok-taken.ensures)
    (subst (λ (os : List Output). IsSumOf (values os) c.in_ok-paid.paid) c.outputs.ensures.outputs c.in_ok-paid.ensures)
    c.in-Some.token c.token_fault.result c.in-Some.ensures.first c.token_fault.ensures

pub returns : goal.returns
unfolding unbalanced
returns c =
    none_differs (c.args.tx.now.forge ∷ values c.args.resolved.now.spent) (values c.args.tx.now.outputs) c.in_ok-taken.taken c.in_ok-paid.paid
    (subst (λ (bundles : List (List TokenEntry)). IsSumOf bundles c.in_ok-taken.taken) (λ i. c.forge.ensures i ∷ values (c.spent.ensures.same i)) c.in_ok-taken.ensures)
    (subst (λ (os : List Output). IsSumOf (values os) c.in_ok-paid.paid) c.outputs.ensures.outputs c.in_ok-paid.ensures)
    c.in-None.ensures.none
