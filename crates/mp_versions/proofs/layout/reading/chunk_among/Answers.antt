use Rattle.std.proofs.Common.{◌≡◌, ◌+◌, ◌-◌, ◌≤◌, ◌++◌, Some, drop, length, slice_get, sym, ap, ◌∙◌, arith}
use Rattle.std.proofs.lemmas.Bool.{ltb-true, ltb-false}
use Rattle.std.proofs.lemmas.List.{drop_all}
use Rattle.std.proofs.lemmas.Option.{slice_get-get_or}
use Rattle.mp_versions.specs.Layout.{filled_chunks}
use Rattle.mp_versions.specs.Pages.{chunks_of}
use Rattle.mp_versions.proofs.Finding.{get_front, get_behind}
use Rattle.mp_versions.proofs.Chunks.{chunks_first}
use Rattle.mp_versions.proofs.Leaving.{here_at}
use Rattle.mp_versions.proofs.layout.reading.chunk_among.Goals as goal

pub returns-in-Some : goal.returns-in-Some
returns-in-Some c =
    let pages = c.args.pages.now in
    let newest = filled_chunks c.args.newest.now in
    let i = c.loop-page.page-index in
    let left = c.loop-page.left in
    let page = c.page-item.result in
    let chunks = c.as_slice-chunks.result.now in
    let chunk = c.in-Some.chunk.now in
    let there : slice_get chunks left ≡ Some chunk =
    slice_get-get_or chunks left chunk (ltb-true left (length chunks) (sym c.in-Some.ensures.lookup.0)) ∙ ap Some (sym c.in-Some.ensures.lookup.1) in
    ap Some c.as_slice.ensures
    ∙ sym (c.loop-page.invariant ∙ ap (λ cs. slice_get cs left) (chunks_first pages page newest i (here_at pages i page c.loop-page-test.true c.page-item.is))
    ∙ get_front page (chunks_of (drop (i + 1) pages) ++ newest) left chunk (ap (λ l. slice_get l left) (sym c.as_slice-chunks.ensures) ∙ there))

pub loop-page-preserved : goal.loop-page-preserved
loop-page-preserved c =
    let pages = c.args.pages.now in
    let newest = filled_chunks c.args.newest.now in
    let i = c.loop-page.page-index in
    let left = c.loop-page.left in
    let page = c.page-item.result in
    let chunks = c.as_slice-chunks.result.now in
    let past : length chunks ≤ left = ltb-false left (length chunks) (sym c.in-None.ensures.lookup.0) in
    let same : length chunks ≡ length page = ap length c.as_slice-chunks.ensures in
    c.loop-page.invariant ∙ ap (λ cs. slice_get cs left) (chunks_first pages page newest i (here_at pages i page c.loop-page-test.true c.page-item.is))
    ∙ get_behind page (chunks_of (drop (i + 1) pages) ++ newest) left (left - length chunks) (omega arith)

pub returns : goal.returns
returns c =
    let left = c.loop-page.left in
    let newest = filled_chunks c.args.newest.now in
    c.newest_at.ensures ∙ sym (c.loop-page.invariant ∙ ap (λ ps. slice_get (chunks_of ps ++ newest) left) (drop_all c.loop-page.page-index c.args.pages.now c.loop-page-test.false))
