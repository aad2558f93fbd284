use Rattle.std.proofs.Common.{length, ap, arith}
use Rattle.mp_versions.specs.Pages.{flattened}
use Rattle.mp_versions.proofs.Lengths.{page_length}
use Rattle.mp_versions.proofs.layout.counting.count_in_pages.Goals as goal

pub count_in-count-requires : goal.count_in-count-requires
count_in-count-requires c =
    let part = page_length c.args.pages.now c.loop-page.page-index c.page-item.result c.loop-page-test.true c.page-item.is in
    let chunks = ap (λ cs. length (flattened cs)) c.as_slice.ensures in
    let most = c.requires in
    omega (arith, part, chunks, most)

pub overflow_add-count : goal.overflow_add-count
overflow_add-count c =
    let part = page_length c.args.pages.now c.loop-page.page-index c.page-item.result c.loop-page-test.true c.page-item.is in
    let chunks = ap (λ cs. length (flattened cs)) c.as_slice.ensures in
    let counted = c.count_in-count.ensures in
    let count = c.loop-page.invariant in
    let most = c.requires in
    record { fits = omega (arith, part, chunks, counted, count, most) }
