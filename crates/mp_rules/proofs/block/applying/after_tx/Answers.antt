use Rattle.mp_rules.specs.Validity.{InputsThere, OutputsFresh}
use Rattle.mp_rules.proofs.block.applying.after_tx.Goals as goal

pub apply_tx-requires-clause-there : goal.apply_tx-requires-clause-there
apply_tx-requires-clause-there g c = c.in_default.ensures.valid InputsThere

pub apply_tx-requires-clause-fresh : goal.apply_tx-requires-clause-fresh
apply_tx-requires-clause-fresh g c = c.in_default.ensures.valid OutputsFresh
