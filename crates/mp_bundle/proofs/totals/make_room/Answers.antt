use Rattle.mp_bundle.proofs.TotalsLemmas.{kept_on, room_stays, room_more}
use Rattle.std.proofs.Common.{take}
use Rattle.mp_bundle.proofs.totals.make_room.Goals as goal

pub loop-token-preserved : goal.loop-token-preserved
loop-token-preserved c =
    let step = c.in_ok-make_room_for.ensures in
    record {
      kept = kept_on c.args.totals.now c.loop-token.totals c.make_room_for.new.totals c.loop-token.invariant.kept step.kept;
      room = room_more c.make_room_for.new.totals c.args.entries.now c.loop-token.token-index c.loop-token-item.result c.loop-token-test.true c.loop-token-item.is
          (room_stays c.loop-token.totals c.make_room_for.new.totals (take c.loop-token.token-index c.args.entries.now) step.kept.room c.loop-token.invariant.room) step.room;
    }
