use Rattle.std.proofs.Common.{subst, sym}
use Rattle.mp_names.specs.Inside.Reported.{AreDeclared}
use Rattle.mp_names.proofs.Reporting.{declared-push}
use Rattle.mp_names.proofs.names.Names.declare.Goals as goal

pub invariant_of-self-2 : goal.invariant_of-self-2
invariant_of-self-2 c =
    subst (λ bs. AreDeclared bs c.self.inside.reported) (sym c.in_ok-push.ensures.ok)
    (declared-push c.self.inside.bindings c.self.inside.reported (record { name = c.args.name; binding = c.args.binding }) c.self.invariant)
