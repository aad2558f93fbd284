use Rattle.mp_seqpool.specs.Command.{Sync}
use Rattle.mp_mempool.proofs.Preparing.{held, signed_held, prepares_held, refused_held}
use Rattle.mp_mempool.proofs.write.locked.Locked.prepare_sync_in_pool.Goals as goal

pub prepare_sync-requires : goal.prepare_sync-requires
prepare_sync-requires g c =
    signed_held g.N.PoolName.accepts (g.V.Verifier.accepts c.args.verifier.now) g.N.PoolName.callers c.self.inside.right c.self.inside.pool.pool c.self.inside.newest
    c.self.inside.places.items c.requires c.self.invariant.0

pub returns-clause-ready : goal.returns-clause-ready
returns-clause-ready g c =
    prepares_held g.N.PoolName.accepts (g.V.Verifier.accepts c.args.verifier.now) c.self.inside.pool c.args.self.now (Sync c.args.ledger.now) c.prepare_sync.result c.requires
    (held g.N.PoolName.accepts g.N.PoolName.callers c.self.inside.right c.self.inside.pool c.self.inside.newest c.self.inside.places.items c.self.inside.waiting c.self.inside.publisher c.args.self.now c.self.invariant.0 c.self.view_is) c.prepare_sync.ensures.ready

pub returns-clause-refused : goal.returns-clause-refused
returns-clause-refused g c =
    refused_held g.N.PoolName.accepts (g.V.Verifier.accepts c.args.verifier.now) c.self.inside.pool c.args.self.now (Sync c.args.ledger.now) c.prepare_sync.result c.requires
    (held g.N.PoolName.accepts g.N.PoolName.callers c.self.inside.right c.self.inside.pool c.self.inside.newest c.self.inside.places.items c.self.inside.waiting c.self.inside.publisher c.args.self.now c.self.invariant.0 c.self.view_is) c.prepare_sync.ensures.refused
