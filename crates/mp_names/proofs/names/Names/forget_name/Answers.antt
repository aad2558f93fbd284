use Rattle.std.proofs.Common.{subst, sym, ap, ◌∙◌, not, ◌∷◌, []}
use Rattle.std.specs.Prelude.{filter}
use Rattle.mp_names.specs.Inside.BindingTable.{has_name}
use Rattle.mp_names.specs.Inside.Reported.{AreDeclared}
use Rattle.mp_names.specs.Names.{without_bindings}
use Rattle.mp_names.proofs.Reporting.{declared-left}
use Rattle.mp_names.proofs.Forgetting.{without-one}
use Rattle.mp_names.proofs.names.Names.forget_name.Goals as goal

pub invariant_of-self : goal.invariant_of-self
invariant_of-self c =
    subst (λ bs. AreDeclared bs c.unreport.new.reported) (sym c.forget.ensures)
    (subst (AreDeclared (filter (λ n. not (has_name c.args.word.now n)) c.self.inside.bindings)) (sym c.unreport.ensures)
    (declared-left c.self.inside.bindings c.self.inside.reported c.args.word.now c.self.invariant))

pub returns : goal.returns
returns c =
    without-one _ c.args.word.now c.forget.new.self c.unreport.new.reported c.forget.ensures c.unreport.ensures
    ∙ ap (λ n. without_bindings n (c.args.word.now ∷ [])) c.self.view_is
