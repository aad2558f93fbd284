use Rattle.std.proofs.Common.{ℕ, List, ap, ◌∙◌}
use Rattle.mp_seqpool.specs.SlowPool.{ticket_of}
use Rattle.mp_seqpool.proofs.TicketsNamed.{one_found, none_found}
use Rattle.mp_seqpool.proofs.pool.SeqPool.tickets_of.Goals.{in-Some+in_ok-push, in_default}
use Rattle.mp_seqpool.proofs.pool.SeqPool.tickets_of.Goals as goal

pub loop-id-preserved : goal.loop-id-preserved
loop-id-preserved c =
    let under = λ (id : List ℕ). ticket_of id c.args.self.now.pool.items in
    elim c.match-ticket_of.branch [
      | in-Some+in_ok-push w ↦
          ap (λ v. v.items) w.found-is ∙ w.in_ok-push.ensures.items
          ∙ one_found under c.args.ids.now c.loop-id.id-index c.loop-id.found.items c.loop-id-test.true c.loop-id.invariant w.in-Some.ticket w.in-Some.ensures
      | in_default w ↦
          ap (λ v. v.items) w.found-is
          ∙ none_found under c.args.ids.now c.loop-id.id-index c.loop-id.found.items c.loop-id-test.true c.loop-id.invariant w.in_default.ensures
    ]
