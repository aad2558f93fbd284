use Rattle.std.proofs.Common.{sym, ◌∙◌}
use Rattle.std.proofs.lemmas.Map.Iter.{rest_more}
use Rattle.mp_seqpool.specs.Item.{shown}
use Rattle.mp_clients.proofs.Checks.{found_later}
use Rattle.mp_clients.proofs.checking.ticket_of.Goals as goal

pub loop-item-preserved : goal.loop-item-preserved
loop-item-preserved c =
    c.loop-item.invariant
    ∙ found_later c.args.id.now (shown c.in-Some.item) c.loop-item.item-iterator c.next.new.self
    (rest_more shown c.loop-item.item-iterator c.next.new.self c.next.result c.in-Some.item c.in-Some.is c.next.ensures.steps) (sym c.is_of.ensures ∙ c.if-is_of.false)
