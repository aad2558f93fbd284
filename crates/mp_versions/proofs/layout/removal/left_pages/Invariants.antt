use Rattle.std.proofs.Common.{◌≡◌, take}
use Rattle.mp_seqpool.specs.Prepared.{apart}
use Rattle.mp_versions.specs.Pages.{joined, AreFilled}
use Rattle.mp_versions.proofs.layout.removal.left_pages.Given as goal

-- what remains of the pages so far
abbrev pub invariant-loop-page : goal.invariant-loop-page
invariant-loop-page l = (joined l.kept.items ≡ apart l.tickets (joined (take l.page-index l.pages))) × AreFilled l.kept.items
