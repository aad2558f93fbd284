use Rattle.std.proofs.Common.{subst}
use Rattle.mp_tx.specs.Ledger.{refs}
use Rattle.mp_tx.specs.LedgerFault.{HasFault}
use Rattle.mp_session.proofs.Repeats.{no_repeat}
use Rattle.mp_session.proofs.ledgers.make_ledger.Goals as goal

pub unreachable-requires : goal.unreachable-requires
unreachable-requires c =
    no_repeat (refs c.args.outputs.items) c.in-Repeated.field-0 c.requires.distinct
    (subst (λ f. HasFault f c.args.block_bytes (refs c.args.outputs.items)) c.in-Repeated.is c.in-Err.ensures.fault).1
