use Rattle.std.proofs.Common.{refl, sym, ap, subst, ◌∙◌}
use Rattle.mp_seqpool.specs.Pool.{Pool}
use Rattle.mp_seqpool.specs.PoolLaws.{IsLawful}
use Rattle.mp_seqpool.proofs.Exits.{no_value, not_ok, passed_on}
use Rattle.mp_seqpool.specs.Config.{fresh_pool}
use Rattle.mp_seqpool.proofs.Histories.{lawful-empty, lawful-after}
use Rattle.mp_history.specs.declared.fault.AuditFault.TheVariants.{NoMemory}
use Rattle.mp_history.specs.AuditFault.{IsFaultOf, IsIllegal}
use Rattle.mp_history.specs.Log.{commands, IsLegal, pool_of}
use Rattle.mp_history.proofs.history.audit.Goals as goal

pub returns-in_err-pool-clause-legal : goal.returns-in_err-pool-clause-legal
returns-in_err-pool-clause-legal g c = not_ok c.from_residual.result _ c.from_residual.ensures.0

pub returns-in_err-pool-clause-pool : goal.returns-in_err-pool-clause-pool
returns-in_err-pool-clause-pool g c = no_value c.from_residual.result _ c.from_residual.ensures.0

pub returns-in_err-pool-clause-lawful : goal.returns-in_err-pool-clause-lawful
returns-in_err-pool-clause-lawful g c = no_value c.from_residual.result _ c.from_residual.ensures.0

pub returns-in_err-pool-clause-fault : goal.returns-in_err-pool-clause-fault
returns-in_err-pool-clause-fault g c = passed_on c.from_residual.result _ NoMemory c.from_residual.ensures.1 tt

pub returns-in_err-pool-clause-illegal : goal.returns-in_err-pool-clause-illegal
returns-in_err-pool-clause-illegal g c = passed_on c.from_residual.result _ NoMemory c.from_residual.ensures.1 (λ other. absurd (other refl))

pub replay_all-requires : goal.replay_all-requires
replay_all-requires g c =
    let accepts = g.V.Verifier.accepts c.args.verifier.now in
    subst (IsLawful accepts) (sym c.in_ok-pool.ensures) (lawful-empty accepts c.args.config.limit c.args.config.last c.args.ledger.now)

pub returns-in_err-replay_all-clause-legal : goal.returns-in_err-replay_all-clause-legal
returns-in_err-replay_all-clause-legal g c = not_ok c.from_residual-in_err-replay_all.result _ c.from_residual-in_err-replay_all.ensures.0

pub returns-in_err-replay_all-clause-pool : goal.returns-in_err-replay_all-clause-pool
returns-in_err-replay_all-clause-pool g c = no_value c.from_residual-in_err-replay_all.result _ c.from_residual-in_err-replay_all.ensures.0

pub returns-in_err-replay_all-clause-lawful : goal.returns-in_err-replay_all-clause-lawful
returns-in_err-replay_all-clause-lawful g c = no_value c.from_residual-in_err-replay_all.result _ c.from_residual-in_err-replay_all.ensures.0

pub returns-in_err-replay_all-clause-fault : goal.returns-in_err-replay_all-clause-fault
returns-in_err-replay_all-clause-fault g c =
    let accepts = g.V.Verifier.accepts c.args.verifier.now in
    let fault = c.in_err-replay_all.field-0.0 in
    passed_on c.from_residual-in_err-replay_all.result _ fault c.from_residual-in_err-replay_all.ensures.1
    (subst (λ (p : Pool). IsFaultOf accepts c.args.callers p c.args.entries.now fault) c.in_ok-pool.ensures c.in_err-replay_all.ensures.fault)

pub returns-in_err-replay_all-clause-illegal : goal.returns-in_err-replay_all-clause-illegal
returns-in_err-replay_all-clause-illegal g c =
    let accepts = g.V.Verifier.accepts c.args.verifier.now in
    let fault = c.in_err-replay_all.field-0.0 in
    passed_on c.from_residual-in_err-replay_all.result _ fault c.from_residual-in_err-replay_all.ensures.1
    (λ other. subst (λ (p : Pool). IsIllegal accepts c.args.callers p c.args.entries.now) c.in_ok-pool.ensures (c.in_err-replay_all.ensures.illegal other))

pub returns-clause-legal : goal.returns-clause-legal
returns-clause-legal g c =
    let accepts = g.V.Verifier.accepts c.args.verifier.now in
    subst (λ (p : Pool). IsLegal accepts c.args.callers p c.args.entries.now) c.in_ok-pool.ensures c.in_ok-replay_all.ensures.legal

pub returns-clause-pool : goal.returns-clause-pool
returns-clause-pool g c =
    let accepts = g.V.Verifier.accepts c.args.verifier.now in
    c.in_ok-replay_all.ensures.pool ∙ ap (λ (p : Pool). pool_of accepts p c.args.entries.now) c.in_ok-pool.ensures

pub returns-clause-lawful : goal.returns-clause-lawful
returns-clause-lawful g c =
    let accepts = g.V.Verifier.accepts c.args.verifier.now in
    let fresh = fresh_pool c.args.config c.args.ledger.now in
    subst (IsLawful accepts) (sym (returns-clause-pool g c))
    (lawful-after accepts fresh (commands c.args.entries.now) (lawful-empty accepts c.args.config.limit c.args.config.last c.args.ledger.now))
