use Rattle.std.proofs.Common.{sym, subst, ap, ◌∙◌, ◌∷◌, []}
use Rattle.mp_serve.specs.Inside.Former.{earliest, CanAllGoBack}
use Rattle.mp_serve.proofs.Formers.{can-last, earliest-append}
use Rattle.mp_serve.proofs.former.earliest.Goals as goal

pub state_before-requires : goal.state_before-requires
state_before-requires c =
    (can-last c.in-Some.others.now c.in-Some.last.now c.loop-last.ledger (subst (λ fs. CanAllGoBack fs c.loop-last.ledger) c.in-Some.ensures.cases.0 c.loop-last.invariant.1)).0

pub loop-last-preserved : goal.loop-last-preserved
loop-last-preserved c =
    let rest = can-last c.in-Some.others.now c.in-Some.last.now c.loop-last.ledger (subst (λ fs. CanAllGoBack fs c.loop-last.ledger) c.in-Some.ensures.cases.0 c.loop-last.invariant.1) in (
      ap (earliest c.in-Some.others.now) c.in_ok-ledger-2.ensures ∙ sym (earliest-append c.in-Some.others.now (c.in-Some.last.now ∷ []) c.loop-last.ledger)
          ∙ ap (λ fs. earliest fs c.loop-last.ledger) (sym c.in-Some.ensures.cases.0) ∙ c.loop-last.invariant.0,
      subst (CanAllGoBack c.in-Some.others.now) (sym c.in_ok-ledger-2.ensures) rest.1,
    )
