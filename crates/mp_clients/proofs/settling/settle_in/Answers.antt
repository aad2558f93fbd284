use Rattle.std.proofs.Common.{sym, ap, subst, ◌∙◌}
use Rattle.std.specs.Prelude.{Any}
use Rattle.mp_history.specs.Log.{Log}
use Rattle.mp_clients.specs.Service.{LacksOneOf}
use Rattle.mp_clients.proofs.settling.settle_in.Goals as goal

pub returns-clause-foreign : goal.returns-clause-foreign
returns-clause-foreign g c =
    λ e. subst (λ (l : Log). Any (LacksOneOf l) c.args.done.now) (sym (c.front-front.ensures.front ∙ ap (λ l. l.log) c.know_all-is_known.ensures.same)) (c.know_all-is_known.ensures.foreign e)
