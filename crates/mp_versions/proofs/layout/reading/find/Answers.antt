use Rattle.std.proofs.Common.{Some, None, cond, sym, ap, ◌∙◌, ◌<◌, arith}
use Rattle.std.proofs.lemmas.Bool.{eq-eqb, ne_eqb}
use Rattle.std.specs.Arc.{arc_value}
use Rattle.mp_tickets.specs.Tickets.{item_at}
use Rattle.mp_versions.specs.Layout.{items_in}
use Rattle.mp_versions.proofs.Finding.{none_at_zero, found, first_under}
use Rattle.mp_versions.proofs.layout.reading.find.Goals as goal

pub returns-then-ticket-eq0-clause-tx : goal.returns-then-ticket-eq0-clause-tx
returns-then-ticket-eq0-clause-tx c =
    let xs = items_in c.args.layout.now in
    sym (ap (λ t. item_at xs t) c.if-ticket-eq0.true ∙ none_at_zero xs c.requires.rising)

pub returns-in_default-clause-tx : goal.returns-in_default-clause-tx
returns-in_default-clause-tx c =
    let xs = items_in c.args.layout.now in
    let t = c.args.ticket in
    let zero = c.if-ticket-eq0.false in
    let more : 0 < t = omega arith in
    sym (found 0 t xs more c.requires.rising ∙ ap (λ l. first_under t l) (sym c.run_after.ensures ∙ c.in_default.ensures.steps.0))

pub returns-then-item-ticket-clause-tx : goal.returns-then-item-ticket-clause-tx
returns-then-item-ticket-clause-tx c =
    let xs = items_in c.args.layout.now in
    let t = c.args.ticket in
    let item = c.in-Some.item.now in
    let zero = c.if-ticket-eq0.false in
    let more : 0 < t = omega arith in
    sym (found 0 t xs more c.requires.rising ∙ ap (λ l. first_under t l) (sym c.run_after.ensures ∙ c.in-Some.ensures.steps)
    ∙ ap (λ b. cond b (Some (arc_value item.tx)) None) (eq-eqb item.ticket t c.if-item-ticket.true))

pub returns-else-item-ticket-clause-tx : goal.returns-else-item-ticket-clause-tx
returns-else-item-ticket-clause-tx c =
    let xs = items_in c.args.layout.now in
    let t = c.args.ticket in
    let item = c.in-Some.item.now in
    let zero = c.if-ticket-eq0.false in
    let more : 0 < t = omega arith in
    sym (found 0 t xs more c.requires.rising ∙ ap (λ l. first_under t l) (sym c.run_after.ensures ∙ c.in-Some.ensures.steps)
    ∙ ap (λ b. cond b (Some (arc_value item.tx)) None) (ne_eqb item.ticket t c.if-item-ticket.false))
