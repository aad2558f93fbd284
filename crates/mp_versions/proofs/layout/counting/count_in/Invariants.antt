use Rattle.std.proofs.Common.{◌≡◌, take, length}
use Rattle.mp_versions.specs.Pages.{flattened}
use Rattle.mp_versions.proofs.layout.counting.count_in.Given as goal

-- the items of the chunks so far
abbrev pub invariant-loop-chunk : goal.invariant-loop-chunk
invariant-loop-chunk l = l.count ≡ length (flattened (take l.chunk-index l.chunks))
