use Rattle.std.proofs.Common.{sym, subst}
use Rattle.mp_tickets.specs.Tickets.{IsRising}
use Rattle.mp_versions.specs.Pages.{joined}
use Rattle.mp_versions.proofs.Blocks.{rising_before, rising_behind}
use Rattle.mp_versions.proofs.layout.reading.run_after.Goals as goal

pub pages_after-requires-clause-rising : goal.pages_after-requires-clause-rising
pages_after-requires-clause-rising c =
    subst (λ ps. IsRising (joined ps)) (sym c.as_slice.ensures) (rising_before (joined c.args.layout.now.pages) c.args.layout.now.newest c.requires.rising)

pub items_after-requires : goal.items_after-requires
items_after-requires c = subst IsRising (sym c.as_slice-2.ensures) (rising_behind (joined c.args.layout.now.pages) c.args.layout.now.newest c.requires.rising)
