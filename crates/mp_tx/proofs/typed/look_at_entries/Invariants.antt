use Rattle.std.proofs.Common.{◌≡◌, length, take}
use Rattle.std.specs.List.{All}
use Rattle.mp_tx.proofs.typed.look_at_entries.Given as goal

-- for those so far
abbrev pub invariant-loop-entry : goal.invariant-loop-entry
invariant-loop-entry l = All (λ e. length e.0.policy ≡ 32) (take l.entry-index l.entries)
