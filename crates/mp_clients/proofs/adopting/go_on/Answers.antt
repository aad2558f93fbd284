use Rattle.std.proofs.Common.{◌≡◌, List, [], ◌∷◌, ◌++◌, sym, ap, subst, ◌∙◌}
use Rattle.mp_serve.specs.ServedPool.{latest}
use Rattle.mp_serve.specs.declared.former.Former.{Former}
use Rattle.mp_serve.specs.Inside.Former.{states_of, CanAllGoBack}
use Rattle.mp_serve.proofs.Formers.{states-latest, can-latest}
use Rattle.mp_clients.proofs.adopting.go_on.Goals as goal

pub returns-in-Ok-Ok-clause-formers : goal.returns-in-Ok-Ok-clause-formers
returns-in-Ok-Ok-clause-formers g c =
    let fs : List Former = c.args.formers.now.items in
    let kept : c.keep_latest.new.formers.items ≡ latest (fs ++ c.args.former ∷ []) =
    c.keep_latest.ensures.latest ∙ ap latest (c.push_reserved.ensures.items ∙ ap (λ (gs : List Former). gs ++ c.args.former ∷ []) c.reserve.ensures.items) in
    ap (λ (gs : List Former). states_of gs c.args.ledger) kept ∙ states-latest fs c.args.former c.args.ledger c.args.now.now c.requires.back

pub returns-in-Ok-Ok-clause-can : goal.returns-in-Ok-Ok-clause-can
returns-in-Ok-Ok-clause-can g c =
    let fs : List Former = c.args.formers.now.items in
    let kept : c.keep_latest.new.formers.items ≡ latest (fs ++ c.args.former ∷ []) =
    c.keep_latest.ensures.latest ∙ ap latest (c.push_reserved.ensures.items ∙ ap (λ (gs : List Former). gs ++ c.args.former ∷ []) c.reserve.ensures.items) in
    subst (λ (gs : List Former). CanAllGoBack gs c.args.ledger) (sym kept) (can-latest fs c.args.former c.args.ledger c.args.now.now c.requires.can c.requires.back)
