use Rattle.std.proofs.Common.{◌≡◌, drop}
use Rattle.mp_tx.specs.Reference.{ref_cmp}
use Rattle.mp_tx.specs.Rising.{rises_after, rises}
use Rattle.mp_tx.proofs.order.references_rise.Given as goal

-- the remaining ones are strictly increasing if all are
abbrev pub invariant-loop-reference : goal.invariant-loop-reference
invariant-loop-reference l = rises_after ref_cmp l.before (drop l.reference-index l.references) ≡ rises ref_cmp l.references
