use Rattle.std.proofs.Common.{◌≡◌, ◌<◌, List, [], length, sym, subst, ◌∙◌}
use Rattle.std.specs.Prelude.{All}
use Rattle.mp_seqpool.specs.SlowPool.{empty_pool}
use Rattle.mp_session.specs.Settings.{limit_of, last_of}
use Rattle.mp_history.specs.Log.{Log}
use Rattle.mp_mempool.specs.Pass.{Pass}
use Rattle.mp_mempool.specs.Opening.{fresh_passes}
use Rattle.mp_clients.specs.Opening.{new_log}
use Rattle.mp_clients.proofs.Fresh.{fronts, limits, some}
use Rattle.mp_clients.proofs.Seats.{opened_on}
use Rattle.mp_clients.proofs.opening.open_on.Goals as goal

pub first_front-front-requires : goal.first_front-front-requires
first_front-front-requires g c =
    let log : Log = new_log (empty_pool c.limit-limit.result c.last.result c.args.ledger.now) in
    let are : c.in-Ok.passes.items ≡ fresh_passes c.args.callers log = cc (c.in-Ok.ensures.passes) in
    subst (λ (l : List Pass). 0 < length l) (sym (c.deref.ensures.value ∙ are)) (some c.args.callers log c.requires.some)

pub seats_of-requires-clause-limit : goal.seats_of-requires-clause-limit
seats_of-requires-clause-limit g c =
    let log : Log = new_log (empty_pool c.limit-limit.result c.last.result c.args.ledger.now) in
    let are : c.in-Ok.passes.items ≡ fresh_passes c.args.callers log = cc (c.in-Ok.ensures.passes) in
    subst (All (λ (p : Pass). c.limit-limit.result ≡ p.front.opening.limit)) (sym are) (limits c.args.callers log)

pub returns-in-Ok : goal.returns-in-Ok
returns-in-Ok g c =
    let log : Log = new_log (empty_pool c.limit-limit.result c.last.result c.args.ledger.now) in
    let are : c.in-Ok.passes.items ≡ fresh_passes c.args.callers log = cc (c.in-Ok.ensures.passes) in
    let same : c.first_front-front.result ≡ log = c.first_front-front.ensures.same log (subst (All (λ (p : Pass). p.front ≡ log)) (sym (c.deref.ensures.value ∙ are)) (fronts c.args.callers log)) in
    opened_on g.N.PoolName.accepts g.N.PoolName.callers c.args.callers c.args.signatures.now c.args.ledger.now c.limit-limit.result c.last.result (limit_of c.args.settings.now) (last_of c.args.settings.now) c.args.most_names
    c.first_front-front.result c.in_ok-seats-in-Ok.seats.items c.in-Ok.passes.items c.limit-limit.ensures.same c.last.ensures c.requires.number same c.first_front-front.ensures.legal are c.in_ok-seats-in-Ok.ensures
