use Rattle.mp_mempool.proofs.Seeing.{is_seen_anew}
use Rattle.mp_mempool.proofs.read.reader.Reader.learn.Goals as goal

pub returns-clause-seen : goal.returns-clause-seen
returns-clause-seen g c = is_seen_anew g.N.PoolName.accepts g.N.PoolName.callers c.args.pass.now c.learn.new.self c.learn.ensures.begins c.look_at.ensures c.learn.ensures.same
