use Rattle.std.proofs.Common.{[], ◌∷◌, ◌++◌, sym, ap, subst, ◌∙◌, rules, nat_le}
use Rattle.std.proofs.lemmas.List.Elements.{recursion_from_All}
use Rattle.std.specs.List.{All}
use Rattle.std.proofs.lemmas.List.{append_assoc, nil_from_length}
use Rattle.std.proofs.lemmas.List.Sorted.{IsPartitionedBy-leb, IsPartitionPoint-from_clause}
use Rattle.mp_tickets.specs.Tickets.{IsRising, after}
use Rattle.mp_seqpool.specs.Item.{items_of}
use Rattle.mp_versions.specs.Pages.{flattened, joined, IsFilled, IsPage, last_by, last_ticket}
use Rattle.mp_versions.proofs.Parts.{climbs, flat_flat}
use Rattle.mp_versions.proofs.Blocks.{blocks_climb, all_ends, page_ends}
use Rattle.mp_versions.proofs.Parting.{parted, rising_there, first_is, others_are}
use Rattle.mp_versions.proofs.layout.reading.pages_after.Goals as goal

pub chunks_after-requires-clause-filled : goal.chunks_after-requires-clause-filled
chunks_after-requires-clause-filled c =
    let is = first_is IsPage c.args.pages.now c.partition_point-at.result c.in-Some.page.now c.in-Some.others.now c.requires.filled c.in-Some.ensures.cases.0 in
    subst (λ l. All IsFilled l) (sym c.as_slice.ensures) is.chunks

pub chunks_after-requires-clause-rising : goal.chunks_after-requires-clause-rising
chunks_after-requires-clause-rising c =
    subst (λ l. IsRising (flattened l)) (sym c.as_slice.ensures)
    (rising_there (λ l. flattened l) (last_by last_ticket 0) 0 c.args.pages.now c.partition_point-at.result c.in-Some.page.now c.in-Some.others.now
    (subst IsRising (flat_flat c.args.pages.now) c.requires.rising) c.in-Some.ensures.cases.0)

pub returns-in-Some-clause-pages : goal.returns-in-Some-clause-pages
returns-in-Some-clause-pages c = others_are IsPage c.args.pages.now c.partition_point-at.result c.in-Some.page.now c.in-Some.others.now c.requires.filled c.in-Some.ensures.cases.0

pub returns-in-Some-clause-all : goal.returns-in-Some-clause-all
returns-in-Some-clause-all c =
    let xs = c.args.pages.now in
    let at = c.partition_point-at.result in
    let t = c.args.ticket in
    let others = c.in-Some.others.now in
    let page = c.in-Some.page.now in
    let rising = subst IsRising (flat_flat xs) c.requires.rising in
    let ends = all_ends (λ l. flattened l) (last_by last_ticket 0) IsPage page_ends xs (recursion_from_All IsPage xs c.requires.filled) in
    let p = IsPartitionPoint-from_clause (λ x. nat_le (last_by last_ticket 0 x) t) xs at c.partition_point-at.ensures.partitioned
    (IsPartitionedBy-leb (last_by last_ticket 0) xs t (climbs (last_by last_ticket 0) 0 xs (blocks_climb (λ l. flattened l) (last_by last_ticket 0) 0 xs ends rising))) (λ a r f k. search rules) in
    sym (append_assoc (items_of c.chunks_after.result.0.now) (flattened c.chunks_after.result.1.now) (joined others))
    ∙ ap (λ l. l ++ joined others) (c.chunks_after.ensures.all ∙ ap (λ l. after (flattened l) t) c.as_slice.ensures)
    ∙ ap (λ l. after (flattened page) t ++ l) (flat_flat others)
    ∙ sym (parted (λ l. flattened l) (last_by last_ticket 0) 0 t xs (page ∷ others) at ends rising c.partition_point-at.ensures.bound p c.in-Some.ensures.cases.0)
    ∙ ap (λ l. after l t) (sym (flat_flat xs))

pub returns-in-None-clause-all : goal.returns-in-None-clause-all
returns-in-None-clause-all c =
    let xs = c.args.pages.now in
    let at = c.partition_point-at.result in
    let t = c.args.ticket in
    let rising = subst IsRising (flat_flat xs) c.requires.rising in
    let ends = all_ends (λ l. flattened l) (last_by last_ticket 0) IsPage page_ends xs (recursion_from_All IsPage xs c.requires.filled) in
    let p = IsPartitionPoint-from_clause (λ x. nat_le (last_by last_ticket 0 x) t) xs at c.partition_point-at.ensures.partitioned
    (IsPartitionedBy-leb (last_by last_ticket 0) xs t (climbs (last_by last_ticket 0) 0 xs (blocks_climb (λ l. flattened l) (last_by last_ticket 0) 0 xs ends rising))) (λ a r f k. search rules) in
    sym (parted (λ l. flattened l) (last_by last_ticket 0) 0 t xs [] at ends rising c.partition_point-at.ensures.bound p (nil_from_length _ c.in-None.ensures.cases))
    ∙ ap (λ l. after l t) (sym (flat_flat xs))
