use Rattle.std.proofs.Common.{take}
use Rattle.mp_versions.specs.Pages.{last_ticket}
use Rattle.mp_versions.proofs.Parting.{rising_item}
use Rattle.mp_versions.proofs.Leaving.{here_at, KeepsChunks, chunks_kept}
use Rattle.mp_versions.proofs.layout.removal.left_chunks.Goals as goal

pub left_chunk-requires-clause-rising : goal.left_chunk-requires-clause-rising
left_chunk-requires-clause-rising c =
    rising_item (λ l. l) last_ticket 0 c.args.chunks.now c.loop-chunk.chunk-index c.chunk-item.result c.requires.rising
    (here_at c.args.chunks.now c.loop-chunk.chunk-index c.chunk-item.result c.loop-chunk-test.true c.chunk-item.is)

pub loop-chunk-preserved : goal.loop-chunk-preserved
loop-chunk-preserved c =
    let i = c.loop-chunk.invariant in
    let k : KeepsChunks c.args.tickets.now c.loop-chunk.kept.items (take c.loop-chunk.chunk-index c.args.chunks.now) c.loop-chunk.chunk-index =
    record { all = i.0; filled = i.1; few = i.2 } in
    let n = chunks_kept c.args.tickets.now c.loop-chunk.kept.items c.keep_chunk.new.kept.items c.args.chunks.now c.loop-chunk.chunk-index c.chunk-item.result c.in_ok-left_chunk.field-0
    k c.in_ok-left_chunk.ensures c.requires.filled c.in_ok-keep_chunk.ensures c.loop-chunk-test.true c.chunk-item.is in
    (n.all, n.filled, n.few)
