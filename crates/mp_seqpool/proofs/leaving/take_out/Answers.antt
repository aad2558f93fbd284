use Rattle.std.proofs.Common.{◌+◌, take, sym, subst}
use Rattle.mp_seqpool.specs.Inside.Leaving.{TakesOut}
use Rattle.mp_seqpool.proofs.Leavers.{begins, goes_on}
use Rattle.mp_seqpool.proofs.leaving.take_out.Goals as goal

pub loop-ticket-init : goal.loop-ticket-init
loop-ticket-init c = begins c.args.items.now c.requires.known

pub loop-ticket-preserved : goal.loop-ticket-preserved
loop-ticket-preserved c =
    let before = subst (λ l. TakesOut (take c.loop-ticket.ticket-index l) c.args.items.now c.loop-ticket.items c.loop-ticket.bytes) (sym c.as_slice-ticket-items.ensures.same) c.loop-ticket.invariant in
    subst (λ l. TakesOut (take (c.loop-ticket.ticket-index + 1) l) c.args.items.now c.take_one-bytes.new.items (c.loop-ticket.bytes + c.take_one-bytes.result)) c.as_slice-ticket-items.ensures.same
    (goes_on c.as_slice-ticket-items.result.now c.loop-ticket.ticket-index _ c.args.items.now c.loop-ticket.items c.take_one-bytes.new.items c.loop-ticket.bytes c.take_one-bytes.result
    c.loop-ticket-test.true c.take_one-bytes.ensures.items c.take_one-bytes.ensures.known c.take_one-bytes.ensures.bytes before)
