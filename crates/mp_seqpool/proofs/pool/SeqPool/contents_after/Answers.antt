use Rattle.std.proofs.Common.{◌≡◌, ap, subst, ◌∙◌}
use Rattle.mp_tickets.specs.Tickets.{after}
use Rattle.mp_seqpool.specs.ValidatedTx.{ticketed}
use Rattle.mp_seqpool.specs.Pool.{Holding}
use Rattle.mp_seqpool.proofs.Reading.{after_ticketed}
use Rattle.mp_seqpool.proofs.pool.SeqPool.contents_after.Goals as goal

pub returns-clause-all : goal.returns-clause-all
returns-clause-all c = subst (λ (h : Holding). ticketed c.iter_after.result ≡ after h.pool.items c.args.ticket) c.self.view_is
    (ap ticketed c.iter_after.ensures.all ∙ after_ticketed c.self.inside.items c.args.ticket)
