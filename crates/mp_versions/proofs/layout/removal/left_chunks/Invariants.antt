use Rattle.std.proofs.Common.{◌≡◌, ◌≤◌, take, length}
use Rattle.std.specs.List.{All}
use Rattle.mp_seqpool.specs.Prepared.{apart}
use Rattle.mp_versions.specs.Pages.{flattened, IsFilled}
use Rattle.mp_versions.proofs.layout.removal.left_chunks.Given as goal

-- what remains of the chunks so far
abbrev pub invariant-loop-chunk : goal.invariant-loop-chunk
invariant-loop-chunk l =
    (flattened l.kept.items ≡ apart l.tickets (flattened (take l.chunk-index l.chunks))) × All IsFilled l.kept.items × (length l.kept.items ≤ l.chunk-index)
