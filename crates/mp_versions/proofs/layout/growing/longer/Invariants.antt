use Rattle.std.proofs.Common.{◌≡◌, take}
use Rattle.mp_versions.proofs.layout.growing.longer.Given as goal

-- the pages so far
abbrev pub invariant-loop-other : goal.invariant-loop-other
invariant-loop-other l = l.all.items ≡ take l.other-index l.pages
