use Rattle.std.proofs.Common.{subst}
use Rattle.mp_tx.specs.BlockFault.{HasBlockFault}
use Rattle.mp_tx.specs.Ledger.{without}
use Rattle.mp_tx.proofs.Undoing.{none_missing, none_taken}
use Rattle.mp_tx.proofs.undo.put_back.Goals as goal

pub unreachable-requires : goal.unreachable-requires
unreachable-requires c =
    none_missing c.args.after.now.utxo c.args.made.now c.in-Err-Missing.field-0-0 c.requires.there
    (subst (λ e. HasBlockFault e c.args.after.now c.args.block_bytes c.args.made.now c.args.spent.items) c.in-Err-Missing.field-0-is c.in-Err-Missing.ensures.fault).1

pub unreachable-requires-in-Err-Repeated : goal.unreachable-requires-in-Err-Repeated
unreachable-requires-in-Err-Repeated c =
    none_taken (without c.args.after.now.utxo c.args.made.now) c.args.spent.items c.in-Err-Repeated.field-0-0 c.requires.free
    (subst (λ e. HasBlockFault e c.args.after.now c.args.block_bytes c.args.made.now c.args.spent.items) c.in-Err-Repeated.field-0-is c.in-Err-Repeated.ensures.fault).2
