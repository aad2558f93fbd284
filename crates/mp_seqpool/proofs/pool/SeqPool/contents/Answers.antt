use Rattle.std.proofs.Common.{subst}
use Rattle.mp_tickets.specs.Tickets.{IsRising}
use Rattle.mp_seqpool.specs.Pool.{Holding}
use Rattle.mp_seqpool.proofs.Left.{rising_ticketed}
use Rattle.mp_seqpool.proofs.pool.SeqPool.contents.Goals as goal

pub returns-clause-rising : goal.returns-clause-rising
returns-clause-rising c = subst (λ (h : Holding). IsRising h.pool.items) c.self.view_is (rising_ticketed 0 c.self.inside.items c.self.invariant.rising)
