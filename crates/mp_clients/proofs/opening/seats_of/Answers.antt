use Rattle.std.specs.Vec.Iter.{into_iter_items}
use Rattle.std.proofs.lemmas.List.Elements.{All-rest}
use Rattle.mp_mempool.specs.Pass.{Pass}
use Rattle.std.proofs.Common.{◌≡◌}
use Rattle.mp_clients.specs.Opening.{seat_of}
use Rattle.mp_clients.proofs.Seats.{one_mapped}
use Rattle.mp_clients.proofs.opening.seats_of.Goals as goal

pub loop-pass-preserved : goal.loop-pass-preserved
loop-pass-preserved g c =
    let left = into_iter_items c.loop-pass.pass-iterator in
    let rest = into_iter_items c.next.new.self in (
      one_mapped (seat_of c.args.signatures.now c.args.ledger.now c.args.most_names) c.loop-pass.seats.items c.push.new.self.items c.in_ok-seat.seat c.in-Some.pass left rest _ c.loop-pass.invariant.0 c.in-Some.ensures.steps.0 c.in_ok-seat.ensures
          c.in_ok-push.ensures.items,
      All-rest (λ (p : Pass). c.args.limit ≡ p.front.opening.limit) c.in-Some.pass rest left c.in-Some.ensures.steps.0 c.loop-pass.invariant.1,
    )
