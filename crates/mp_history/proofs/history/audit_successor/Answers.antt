use Rattle.std.proofs.Common.{sym, ap, subst, ◌∙◌}
use Rattle.mp_seqpool.specs.Pool.{Pool}
use Rattle.mp_seqpool.specs.Config.{renewed}
use Rattle.mp_seqpool.specs.PoolLaws.{IsLawful}
use Rattle.mp_seqpool.proofs.Histories.{lawful-after, lawful-renewed}
use Rattle.mp_history.specs.Log.{commands, pool_of}
use Rattle.mp_history.proofs.history.audit_successor.Goals as goal

pub replay_all-requires : goal.replay_all-requires
replay_all-requires g c =
    let accepts = g.V.Verifier.accepts c.args.verifier.now in
    subst (IsLawful accepts) (sym c.renew.ensures) (lawful-renewed accepts c.args.limit c.args.pool.pool c.requires.lawful)

pub returns-in-Ok-clause-lawful : goal.returns-in-Ok-clause-lawful
returns-in-Ok-clause-lawful g c =
    let accepts = g.V.Verifier.accepts c.args.verifier.now in
    let renewed_law = lawful-renewed accepts c.args.limit c.args.pool.pool c.requires.lawful in
    subst (IsLawful accepts) (sym (c.in-Ok.ensures.pool ∙ ap (λ (p : Pool). pool_of accepts p c.args.entries.now) c.renew.ensures))
    (lawful-after accepts (renewed c.args.limit c.args.pool.pool) (commands c.args.entries.now) renewed_law)
