use Rattle.std.proofs.Common.{length, sym, ap, ◌∙◌, arith}
use Rattle.std.proofs.lemmas.List.{length-map}
use Rattle.mp_seqpool.specs.Item.{item_of}
use Rattle.mp_versions.proofs.Lengths.{part_length}
use Rattle.mp_versions.proofs.layout.counting.count_in.Goals as goal

pub overflow_add-count : goal.overflow_add-count
overflow_add-count c =
    let part = part_length c.args.chunks.now c.loop-chunk.chunk-index c.chunk-item.result c.loop-chunk-test.true c.chunk-item.is in
    let items = sym (length-map c.as_slice.result.now item_of) ∙ ap length c.as_slice.ensures in
    let count = c.loop-chunk.invariant in
    let most = c.requires in
    record { fits = omega (arith, part, items, count, most) }
