use Rattle.std.proofs.Common.{◌≡◌, take}
use Rattle.mp_rules.proofs.checking.same_outputs.Given as goal

-- none before the index differ
abbrev pub invariant-loop-place : goal.invariant-loop-place
invariant-loop-place l = take l.place l.a ≡ take l.place l.b
