use Rattle.mp_seqpool.proofs.Exits.{no_value}
use Rattle.mp_seqpool.proofs.Opening.{opens}
use Rattle.mp_seqpool.proofs.pool.SeqPool.start.Goals as goal

pub returns-in_err-items : goal.returns-in_err-items
returns-in_err-items c = no_value c.from_residual.result _ c.from_residual.ensures.0

pub returns-in_err-overlay : goal.returns-in_err-overlay
returns-in_err-overlay c = no_value c.from_residual-in_err-overlay.result _ c.from_residual-in_err-overlay.ensures.0

pub returns : goal.returns
returns c = opens c.args.config.limit c.args.config.last c.args.ledger.now c.in_ok-overlay.overlay.ledger c.in_ok-items.items c.in_ok-overlay.ensures.base c.in_ok-items.ensures
