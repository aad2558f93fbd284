use Rattle.mp_mempool.proofs.Seeing.{is_snapshot_for}
use Rattle.mp_mempool.proofs.Signed.{signed_after}
use Rattle.mp_mempool.proofs.read.reader.Reader.try_upon.Goals as goal

pub snapshot_upon-requires : goal.snapshot_upon-requires
snapshot_upon-requires g c =
    signed_after g.N.PoolName.accepts (g.V.Verifier.accepts c.verifier.result.now) g.N.PoolName.callers c.args.shown.now c.version.result.now.pool c.verifier.ensures c.version.ensures.legal c.version.ensures.state

pub returns : goal.returns
returns g c =
    is_snapshot_for (g.V.Verifier.accepts c.verifier.result.now) g.N.PoolName.accepts g.N.PoolName.callers c.args.shown.now c.version.result.now c.args.ledger.now c.snapshot_upon.result
    c.verifier.ensures c.version.ensures.legal c.version.ensures.state c.snapshot_upon.ensures.items c.snapshot_upon.ensures.bytes c.snapshot_upon.ensures.number
