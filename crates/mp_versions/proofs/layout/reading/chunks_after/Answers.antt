use Rattle.std.proofs.Common.{[], ◌∷◌, ◌++◌, sym, ap, subst, ◌∙◌, rules, nat_le}
use Rattle.std.proofs.lemmas.List.{nil_from_length}
use Rattle.std.proofs.lemmas.List.Elements.{recursion_from_All}
use Rattle.std.proofs.lemmas.List.Sorted.{IsPartitionedBy-leb, IsPartitionPoint-from_clause}
use Rattle.mp_tickets.specs.Tickets.{IsRising, after}
use Rattle.mp_versions.specs.Pages.{flattened, IsFilled, last_ticket}
use Rattle.mp_versions.proofs.Parts.{climbs}
use Rattle.mp_versions.proofs.Blocks.{blocks_climb, all_ends, chunk_ends}
use Rattle.mp_versions.proofs.Parting.{parted, rising_there, others_are}
use Rattle.mp_versions.proofs.layout.reading.chunks_after.Goals as goal

pub items_after-requires : goal.items_after-requires
items_after-requires c =
    subst IsRising (sym c.as_slice.ensures)
    (rising_there (λ l. l) last_ticket 0 c.args.chunks.now c.partition_point-at.result c.in-Some.chunk.now c.in-Some.others.now c.requires.rising c.in-Some.ensures.cases.0)

pub returns-in-Some-clause-all : goal.returns-in-Some-clause-all
returns-in-Some-clause-all c =
    let xs = c.args.chunks.now in
    let at = c.partition_point-at.result in
    let t = c.args.ticket in
    let ends = all_ends (λ l. l) last_ticket IsFilled chunk_ends xs (recursion_from_All IsFilled xs c.requires.filled) in
    let p = IsPartitionPoint-from_clause (λ x. nat_le (last_ticket x) t) xs at c.partition_point-at.ensures.partitioned
    (IsPartitionedBy-leb last_ticket xs t (climbs last_ticket 0 xs (blocks_climb (λ l. l) last_ticket 0 xs ends c.requires.rising))) (λ a r f k. search rules) in
    ap (λ l. l ++ flattened c.in-Some.others.now) (c.items_after.ensures ∙ ap (λ l. after l t) c.as_slice.ensures)
    ∙ sym (parted (λ l. l) last_ticket 0 t xs (c.in-Some.chunk.now ∷ c.in-Some.others.now) at ends c.requires.rising c.partition_point-at.ensures.bound p c.in-Some.ensures.cases.0)

pub returns-in-Some-clause-filled : goal.returns-in-Some-clause-filled
returns-in-Some-clause-filled c = others_are IsFilled c.args.chunks.now c.partition_point-at.result c.in-Some.chunk.now c.in-Some.others.now c.requires.filled c.in-Some.ensures.cases.0

pub returns-in-None-clause-all : goal.returns-in-None-clause-all
returns-in-None-clause-all c =
    let xs = c.args.chunks.now in
    let at = c.partition_point-at.result in
    let t = c.args.ticket in
    let ends = all_ends (λ l. l) last_ticket IsFilled chunk_ends xs (recursion_from_All IsFilled xs c.requires.filled) in
    let p = IsPartitionPoint-from_clause (λ x. nat_le (last_ticket x) t) xs at c.partition_point-at.ensures.partitioned
    (IsPartitionedBy-leb last_ticket xs t (climbs last_ticket 0 xs (blocks_climb (λ l. l) last_ticket 0 xs ends c.requires.rising))) (λ a r f k. search rules) in
    sym (parted (λ l. l) last_ticket 0 t xs [] at ends c.requires.rising c.partition_point-at.ensures.bound p (nil_from_length _ c.in-None.ensures.cases))
