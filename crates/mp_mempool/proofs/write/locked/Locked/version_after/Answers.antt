use Rattle.std.proofs.Common.{◌<◌, ap, subst, sym}
use Rattle.mp_mempool.proofs.Steps.{versions_with}
use Rattle.mp_mempool.proofs.write.locked.Locked.version_after.Goals as goal

pub returns : goal.returns
returns g c =
    versions_with g.N.PoolName.accepts g.N.PoolName.callers c.args.self.now c.self.inside.right c.self.inside.pool.pool c.args.entry.now c.args.prepared.now c.after.result
    (ap (λ l. l.log) c.self.view_is) c.self.invariant.0.legal c.self.invariant.0.state (subst (λ k. k < g.N.PoolName.callers) (sym c.requires.caller) c.number-number.ensures.known)
    c.requires.prepares c.requires.asked c.requires.reply c.after.ensures
