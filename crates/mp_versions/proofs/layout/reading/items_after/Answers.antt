use Rattle.std.proofs.Common.{ap, ◌∙◌, rules, nat_le}
use Rattle.std.proofs.lemmas.List.{take_rest}
use Rattle.std.proofs.lemmas.List.Sorted.{IsPartitionedBy-leb, IsPartitionPoint-from_clause}
use Rattle.mp_seqpool.specs.Item.{items_of}
use Rattle.mp_seqpool.specs.declared.item.Item.{Item}
use Rattle.mp_versions.proofs.Parts.{climbs, passes, fails}
use Rattle.mp_versions.proofs.Blocks.{items_climb, after_items}
use Rattle.mp_versions.proofs.layout.reading.items_after.Goals as goal

pub returns : goal.returns
returns c =
    let xs = c.args.items.now in
    let at = c.partition_point-at.result in
    let t = c.args.ticket in
    let p = IsPartitionPoint-from_clause (λ (x : Item). nat_le x.ticket t) xs at c.partition_point-at.ensures.partitioned
    (IsPartitionedBy-leb (λ (x : Item). x.ticket) xs t (climbs (λ (x : Item). x.ticket) 0 xs (items_climb 0 xs c.requires))) (λ a r f k. search rules) in
    ap items_of (take_rest xs at)
    ∙ after_items 0 t xs at c.requires (passes (λ (x : Item). nat_le x.ticket t) xs at c.partition_point-at.ensures.bound p.0) (fails (λ (x : Item). nat_le x.ticket t) xs at p.1)
