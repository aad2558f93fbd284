use Rattle.std.proofs.Common.{◌≡◌, drop}
use Rattle.std.specs.Option.{option_copied}
use Rattle.mp_tx.specs.Transaction.{script_cmp}
use Rattle.mp_tx.specs.Rising.{rises_after, rises}
use Rattle.mp_tx.proofs.order.scripts_rise.Given as goal

-- the remaining ones are strictly increasing if all are
abbrev pub invariant-loop-script : goal.invariant-loop-script
invariant-loop-script l = rises_after script_cmp (option_copied l.before) (drop l.script-index l.scripts) ≡ rises script_cmp l.scripts
