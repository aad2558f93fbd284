use Rattle.std.proofs.lemmas.Map.Iter.{rest_more}
use Rattle.mp_seqpool.specs.Item.{shown}
use Rattle.mp_clients.proofs.Checks.{one_applied}
use Rattle.mp_clients.proofs.checking.overlay_of.Goals as goal

pub loop-item-preserved : goal.loop-item-preserved
loop-item-preserved c =
    one_applied c.loop-item.overlay c.reserve_for.new.self c.apply.new.self c.args.version.now.pool (shown c.in-Some.item) c.loop-item.item-iterator c.next.new.self _ _
    c.loop-item.invariant c.in_ok-reserve_for.ensures.same c.apply.ensures c.in_ok-try_clone.ensures
    (rest_more shown c.loop-item.item-iterator c.next.new.self c.next.result c.in-Some.item c.in-Some.is c.next.ensures.steps)
