use Rattle.std.proofs.Common.{◌≡◌, drop}
use Rattle.mp_tx.specs.Transaction.{signature_cmp}
use Rattle.mp_tx.specs.Rising.{rises_after, rises}
use Rattle.mp_tx.proofs.order.signatures_rise.Given as goal

-- the remaining ones are strictly increasing if all are
abbrev pub invariant-loop-signature : goal.invariant-loop-signature
invariant-loop-signature l = rises_after signature_cmp l.before (drop l.signature-index l.signatures) ≡ rises signature_cmp l.signatures
