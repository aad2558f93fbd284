use Rattle.std.proofs.Common.{◌++◌, length, sym, ap, ◌∙◌, arith}
use Rattle.mp_seqpool.specs.Prepared.{apart}
use Rattle.mp_versions.specs.Pages.{joined}
use Rattle.mp_versions.proofs.Blocks.{rising_before, rising_behind, apart-append}
use Rattle.mp_versions.proofs.Leaving.{fewer}
use Rattle.mp_versions.proofs.layout.removal.without.Goals as goal

pub shared_or_left-requires-clause-rising : goal.shared_or_left-requires-clause-rising
shared_or_left-requires-clause-rising c = rising_before (joined c.args.layout.now.pages) c.args.layout.now.newest c.requires.rising

pub left_chunk-requires-clause-rising : goal.left_chunk-requires-clause-rising
left_chunk-requires-clause-rising c = rising_behind (joined c.args.layout.now.pages) c.args.layout.now.newest c.requires.rising

pub returns-clause-items : goal.returns-clause-items
returns-clause-items c =
    let ts = c.args.tickets.now in
    let pages = joined c.args.layout.now.pages in
    let newest = c.args.layout.now.newest in
    ap (λ is. is ++ c.in_ok-left_chunk.field-0) c.in_ok-shared_or_left.ensures.joined ∙ ap (λ is. apart ts pages ++ is) c.in_ok-left_chunk.ensures ∙ sym (apart-append ts pages newest)

pub returns-clause-laid : goal.returns-clause-laid
returns-clause-laid c =
    let same = ap length c.in_ok-left_chunk.ensures in
    let no_more = fewer c.args.tickets.now c.args.layout.now.newest in
    let few = c.requires.laid.few in
    record { filled = c.in_ok-shared_or_left.ensures.filled; few = omega (arith, same, no_more, few) }
