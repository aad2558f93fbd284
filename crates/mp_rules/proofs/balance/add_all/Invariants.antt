use Rattle.std.proofs.Common.{◌≡◌, ◌+◌, take}
use Rattle.mp_bundle.specs.Sum.{AddsAll}
use Rattle.mp_rules.specs.Resolved.{values}
use Rattle.mp_rules.proofs.balance.add_all.Given as goal

-- those so far are added
abbrev pub invariant-loop-output : goal.invariant-loop-output
invariant-loop-output l = AddsAll l.initial.sum (values (take l.output-index l.outputs)) l.sum × (l.sum.added ≡ l.initial.sum.added + l.output-index)
