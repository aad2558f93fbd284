use Rattle.std.proofs.Common.{◌≡◌, take, length}
use Rattle.mp_versions.specs.Pages.{joined}
use Rattle.mp_versions.proofs.layout.counting.count_in_pages.Given as goal

-- the items of the pages so far
abbrev pub invariant-loop-page : goal.invariant-loop-page
invariant-loop-page l = l.count ≡ length (joined (take l.page-index l.pages))
