use Rattle.std.proofs.Common.{◌≡◌, drop}
use Rattle.mp_tx.specs.Reference.{ref_cmp}
use Rattle.mp_tx.specs.Transaction.{spent_refs}
use Rattle.mp_tx.specs.Rising.{rises_after, rises}
use Rattle.mp_tx.proofs.order.inputs_rise.Given as goal

-- the remaining ones are strictly increasing if all are
abbrev pub invariant-loop-input : goal.invariant-loop-input
invariant-loop-input l = rises_after ref_cmp l.before (spent_refs (drop l.input-index l.inputs)) ≡ rises ref_cmp (spent_refs l.inputs)
