use Rattle.std.proofs.Common.{◌∷◌, [], ap, ◌∙◌}
use Rattle.std.specs.Prelude.{reverse}
use Rattle.std.proofs.lemmas.List.{reverse-append}
use Rattle.mp_script.proofs.stack.Stack.push.Goals as goal

pub returns : goal.returns
returns g c =
    ap reverse c.push.ensures.items ∙ reverse-append c.self.inside.places.items (c.args.item ∷ [])
    ∙ ap (λ items. c.args.item ∷ items) c.self.view_is
