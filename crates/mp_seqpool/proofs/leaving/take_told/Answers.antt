use Rattle.std.proofs.Common.{◌+◌, sym, subst}
use Rattle.mp_seqpool.specs.Inside.Leaving.{Leaves}
use Rattle.mp_seqpool.proofs.Leavers.{synced_told, removed_told}
use Rattle.mp_seqpool.proofs.leaving.take_told.Goals as goal

pub returns-in-Removed : goal.returns-in-Removed
returns-in-Removed c =
    subst (λ r. Leaves r c.args.items.now c.take_out.new.items (c.take_out-bytes.result + c.take_out.result)) (sym c.in-Removed.is)
    (removed_told c.in-Removed.named c.in-Removed.dropped c.args.items.now c.take_out-bytes.new.items c.take_out.new.items c.take_out-bytes.result c.take_out.result c.take_out-bytes.ensures c.take_out.ensures)

pub returns-in-Synced : goal.returns-in-Synced
returns-in-Synced c =
    subst (λ r. Leaves r c.args.items.now c.take_out-in-Synced.new.items c.take_out-in-Synced.result) (sym c.in-Synced.is)
    (synced_told c.in-Synced.kept c.in-Synced.dropped c.args.items.now c.take_out-in-Synced.new.items c.take_out-in-Synced.result c.take_out-in-Synced.ensures)
