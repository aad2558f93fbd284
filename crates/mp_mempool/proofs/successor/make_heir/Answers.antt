use Rattle.std.proofs.Common.{◌∙◌, [], ap}
use Rattle.mp_seqpool.specs.Pool.{Holding}
use Rattle.mp_seqpool.specs.Config.{renewed}
use Rattle.mp_mempool.proofs.Succeeding.{all_new, legal_successor}
use Rattle.mp_mempool.proofs.successor.make_heir.Goals as goal

pub renewed_version-requires-clause-legal : goal.renewed_version-requires-clause-legal
renewed_version-requires-clause-legal g c =
    legal_successor g.N.PoolName.accepts g.M.PoolName.accepts g.N.PoolName.callers g.M.PoolName.callers c.args.limit c.args.locked.now.log c.in_ok-history.right c.requires.accepts
    (c.in_ok-history.ensures.opening ∙ ap (λ (p : Holding). record { opening = renewed c.args.limit p.pool; entries = [] }) c.pool.ensures) c.requires.legal

pub set_desk-requires : goal.set_desk-requires
set_desk-requires g c = all_new c.args.callers c.in_ok-history.tokens.items c.in_ok-history.ensures.callers
