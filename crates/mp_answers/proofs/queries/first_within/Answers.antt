use Rattle.std.proofs.Common.{◌≡◌, ℕ, ◌<◌, ◌≤◌, ◌-◌, ◌+◌, ◌++◌, ◌∷◌, [], length, ap, ◌∙◌, arith, length-append}
use Rattle.std.proofs.lemmas.Map.Iter.{rest_more}
use Rattle.mp_tx.specs.Transaction.{Transaction}
use Rattle.mp_tx.specs.Spelling.{size_of}
use Rattle.mp_tickets.specs.Tickets.{shown}
use Rattle.mp_seqpool.specs.ValidatedTx.{ValidatedTx, ticketed}
use Rattle.mp_seqpool.specs.Item.{items_of}
use Rattle.mp_seqpool.proofs.Moving.{items-last}
use Rattle.mp_answers.proofs.Firsts.{goes_on}
use Rattle.mp_answers.proofs.queries.first_within.Goals as goal

pub loop-ticket-preserved : goal.loop-ticket-preserved
loop-ticket-preserved c =
    let found = c.loop-ticket.found.items in
    let rest = c.next.new.self in
    let i : ℕ × Transaction = (c.in-Some.ticket, c.in-Some.item.now.tx) in
    let n = length found in
    let more : length c.push.new.self.items ≡ n + 1 = ap length c.in_ok-push.ensures.items ∙ length-append found _ in
    let lt : n < c.args.count = omega (arith, c.if-len-count.false, c.loop-ticket.invariant.3) in
    let le : c.size-size.result ≤ c.args.room - c.loop-ticket.bytes = omega (arith, c.if-size-room.false) in
    goes_on c.args.count c.args.room c.loop-ticket.bytes c.size-size.result n (length c.push.new.self.items) i (items_of found) (items_of c.push.new.self.items)
    (ticketed c.loop-ticket.ticket-iterator) (ticketed rest) (ticketed c.args.items)
    (ap ticketed (rest_more shown c.loop-ticket.ticket-iterator rest c.next.result (c.in-Some.ticket, c.in-Some.item) c.in-Some.is c.next.ensures.steps))
    (ap items_of c.in_ok-push.ensures.items ∙ items-last found _ ∙ ap (λ t. items_of found ++ (c.in-Some.ticket, t) ∷ []) (c.in_ok-tx.ensures ∙ ap (λ (v : ValidatedTx). v.tx) c.item.view_is))
    more
    (c.size-size.ensures.size ∙ ap size_of (c.deref.ensures ∙ ap (λ (v : ValidatedTx). v.tx) c.item.view_is))
    lt le c.loop-ticket.invariant.0 c.loop-ticket.invariant.1 c.loop-ticket.invariant.2
