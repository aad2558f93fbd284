use Rattle.std.proofs.Common.{sym, ◌∙◌}
use Rattle.std.proofs.lemmas.List.Elements.{All-head, All-same, All-rest}
use Rattle.mp_versions.specs.Pages.{IsFilled, IsPage}
use Rattle.mp_versions.proofs.run.first_of_pages.Goals as goal

pub returns-in-Some-split_first-clause-chunks : goal.returns-in-Some-split_first-clause-chunks
returns-in-Some-split_first-clause-chunks c =
    let page = c.in-Some.page.now in
    let others = c.in-Some.others.now in
    let is = All-head IsPage page others (All-same IsPage _ c.args.pages.now (sym c.in-Some.ensures.cases.0) c.requires) in
    All-rest IsFilled c.in-Some-split_first.chunk.now c.in-Some-split_first.chunks.now page (sym c.as_slice.ensures ∙ c.in-Some-split_first.ensures.cases.0) is.chunks

pub returns-in-Some-split_first-clause-pages : goal.returns-in-Some-split_first-clause-pages
returns-in-Some-split_first-clause-pages c =
    All-rest IsPage c.in-Some.page.now c.in-Some.others.now c.args.pages.now c.in-Some.ensures.cases.0 c.requires
