use Rattle.mp_serve.proofs.CountTexts.{text-more}
use Rattle.mp_serve.proofs.refused.put_each.Goals as goal

pub loop-place-preserved : goal.loop-place-preserved
loop-place-preserved c =
    text-more c.args.words.now c.args.counts.now c.loop-place.place _ c.loop-place.text.items c.put_count.new.text.items _ c.loop-place-test.true c.requires c.in_ok-put_count.ensures c.loop-place.invariant
