use Rattle.std.proofs.Common.{subst}
use Rattle.mp_mempool.specs.Pass.{Pass}
use Rattle.mp_mempool.specs.Seen.{IsSeen}
use Rattle.mp_mempool.proofs.Seeing.{is_seen_still}
use Rattle.mp_mempool.proofs.read.reader.Reader.take_later.Goals as goal

pub returns-in-None : goal.returns-in-None
returns-in-None g c = record {
  seen = subst (λ (p : Pass). IsSeen g.N.PoolName.accepts g.N.PoolName.callers p c.catch_up.new.self) c.catch_up.ensures
      (is_seen_still g.N.PoolName.accepts g.N.PoolName.callers c.catch_up.new.self c.look_at.ensures);
}
