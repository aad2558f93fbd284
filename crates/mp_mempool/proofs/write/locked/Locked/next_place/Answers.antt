use Rattle.std.proofs.Common.{ap, ◌∙◌}
use Rattle.mp_mempool.proofs.Entering.{entries_made}
use Rattle.mp_mempool.proofs.write.locked.Locked.next_place.Goals as goal

pub returns-clause-place : goal.returns-clause-place
returns-clause-place g c =
    c.changes.ensures.changes ∙ entries_made g.N.PoolName.accepts g.N.PoolName.callers c.args.self.now c.self.inside.right c.self.inside.pool.pool c.self.inside.newest c.self.inside.places.items
    (ap (λ l. l.log) c.self.view_is) c.self.invariant.0
