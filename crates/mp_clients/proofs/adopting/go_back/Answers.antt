use Rattle.std.proofs.Common.{◌≡◌, List, take, sym, ap, subst, ◌∙◌}
use Rattle.mp_serve.specs.declared.former.Former.{Former}
use Rattle.mp_serve.specs.Inside.Former.{states_of, CanAllGoBack}
use Rattle.mp_serve.proofs.Formers.{states-take, can-take}
use Rattle.mp_clients.proofs.adopting.go_back.Goals as goal

pub returns-in-Ok-Ok-clause-formers : goal.returns-in-Ok-Ok-clause-formers
returns-in-Ok-Ok-clause-formers g c =
    let fs : List Former = c.args.formers.now.items in
    ap (λ (gs : List Former). states_of gs c.args.ledger) c.truncate.ensures.items ∙ ap (states_of (take c.args.left fs)) c.requires.back ∙ states-take c.args.left fs c.args.now.now

pub returns-in-Ok-Ok-clause-can : goal.returns-in-Ok-Ok-clause-can
returns-in-Ok-Ok-clause-can g c =
    let fs : List Former = c.args.formers.now.items in
    subst (λ (gs : List Former). CanAllGoBack gs c.args.ledger) (sym c.truncate.ensures.items)
    (subst (CanAllGoBack (take c.args.left fs)) (sym c.requires.back) (can-take c.args.left fs c.args.now.now c.requires.can))
