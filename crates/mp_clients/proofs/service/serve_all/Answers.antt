use Rattle.std.proofs.Common.{subst}
use Rattle.std.specs.Prelude.{Any}
use Rattle.mp_clients.specs.Service.{LacksOneOf}
use Rattle.mp_clients.proofs.service.serve_all.Goals as goal

pub returns-clause-foreign : goal.returns-clause-foreign
returns-clause-foreign g c =
    λ e. subst (Any (LacksOneOf c.settle-front.result.front)) c.deref.ensures.value (c.settle-front.ensures.foreign e)
