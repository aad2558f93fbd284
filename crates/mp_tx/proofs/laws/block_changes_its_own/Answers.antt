use Rattle.mp_tx.proofs.Undoing.{differ-after}
use Rattle.mp_tx.proofs.laws.block_changes_its_own.Goals as goal

pub returns : goal.returns
returns c = differ-after
