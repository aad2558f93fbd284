use Rattle.std.proofs.Common.{◌≡◌, ◌++◌, drop, slice_get}
use Rattle.mp_versions.specs.Layout.{filled_chunks}
use Rattle.mp_versions.specs.Pages.{chunks_of}
use Rattle.mp_versions.proofs.layout.reading.chunk_among.Given as goal

-- the chunk is the one at this index among the remaining ones
abbrev pub invariant-loop-page : goal.invariant-loop-page
invariant-loop-page l = slice_get (chunks_of l.pages ++ filled_chunks l.newest) l.place ≡ slice_get (chunks_of (drop l.page-index l.pages) ++ filled_chunks l.newest) l.left
