use Rattle.std.proofs.Common.{ap, ◌∙◌}
use Rattle.mp_seqpool.specs.Keep.{dropped}
use Rattle.mp_seqpool.proofs.Left.{none_named}
use Rattle.mp_seqpool.proofs.pool.SeqPool.dropped_upon.Goals as goal

pub returns : goal.returns
returns g c =
    c.in_ok-tried.ensures.dropped
    ∙ ap (dropped (g.V.Verifier.accepts c.args.verifier.now) c.args.ledger.now) (none_named c.args.self.now.pool.items)
