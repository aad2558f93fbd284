use Rattle.std.proofs.Common.{subst}
use Rattle.mp_tickets.specs.Tickets.{IsRising}
use Rattle.mp_versions.specs.Pages.{flattened, last_by, last_ticket}
use Rattle.mp_versions.proofs.Parts.{flat_flat}
use Rattle.mp_versions.proofs.Parting.{rising_item}
use Rattle.mp_versions.proofs.Leaving.{here_at, pages_kept}
use Rattle.mp_versions.proofs.layout.removal.left_pages.Goals as goal

pub left_page-requires-clause-rising : goal.left_page-requires-clause-rising
left_page-requires-clause-rising c =
    rising_item (λ l. flattened l) (last_by last_ticket 0) 0 c.args.pages.now c.loop-page.page-index c.page-item.result (subst IsRising (flat_flat c.args.pages.now) c.requires.rising)
    (here_at c.args.pages.now c.loop-page.page-index c.page-item.result c.loop-page-test.true c.page-item.is)

pub loop-page-preserved : goal.loop-page-preserved
loop-page-preserved c =
    pages_kept c.args.tickets.now c.loop-page.kept.items c.keep_page.new.kept.items c.args.pages.now c.loop-page.page-index c.page-item.result c.in_ok-left_page.field-0
    c.loop-page.invariant c.in_ok-left_page.ensures c.in_ok-keep_page.ensures c.loop-page-test.true c.page-item.is
