use Rattle.std.proofs.Common.{subst}
use Rattle.mp_tx.specs.BlockFault.{HasBlockFault}
use Rattle.mp_tx.specs.Ledger.{without}
use Rattle.mp_rules.proofs.Spending.{none_missing}
use Rattle.mp_rules.proofs.Making.{none_taken}
use Rattle.mp_rules.proofs.block.applying.follow.Goals as goal

pub unreachable-requires : goal.unreachable-requires
unreachable-requires c =
    none_missing c.args.ledger.now.utxo c.args.spent.now c.in-Err-Missing.field-0-0 c.requires.there
    (subst (λ e. HasBlockFault e c.args.ledger.now c.args.block_bytes c.args.spent.now c.args.made.items) c.in-Err-Missing.field-0-is c.in-Err-Missing.ensures.fault).1

pub unreachable-requires-in-Err-Repeated : goal.unreachable-requires-in-Err-Repeated
unreachable-requires-in-Err-Repeated c =
    none_taken (without c.args.ledger.now.utxo c.args.spent.now) c.args.made.items c.in-Err-Repeated.field-0-0 c.requires.free
    (subst (λ e. HasBlockFault e c.args.ledger.now c.args.block_bytes c.args.spent.now c.args.made.items) c.in-Err-Repeated.field-0-is c.in-Err-Repeated.ensures.fault).2
