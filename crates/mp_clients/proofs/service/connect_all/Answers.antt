use Rattle.std.proofs.Common.{◌<◌, [], ◌∷◌, ◌++◌, length, sym, ap, ◌∙◌, arith, eqb-true}
use Rattle.std.proofs.lemmas.Grind.{common_steps}
use Rattle.std.proofs.lemmas.Bool.Decides.{nat_tests}
use Rattle.std.proofs.lemmas.List.{nil_from_length}
use Rattle.std.specs.Arc.{arc_value}
use Rattle.mp_clients.proofs.Seats.{first_of}
use Rattle.mp_clients.proofs.Connecting.{no_seats, connected_all}
use Rattle.mp_clients.proofs.service.connect_all.Goals as goal

pub returns-then-is_empty : goal.returns-then-is_empty
returns-then-is_empty g c =
    no_seats c.args.operator c.args.line.items c.args.device c.args.seats.items c.args.clients.items c.new-all.result.items
    (nil_from_length c.args.seats.items (sym c.args.seats.ok.0 ∙ eqb-true c.args.seats.len 0 (sym c.is_empty.ensures ∙ c.if-is_empty.true))) c.new-all.ensures.items

pub returns : goal.returns
returns g c =
    let some : 0 < length c.args.seats.items = grind (arith, common_steps, nat_tests) in
    connected_all c.args.operator c.args.line.items c.args.device c.args.seats.items c.remove-first.new.self.items c.remove-first.result c.args.clients.items c.connect_operator.result c.push.new.self.items c.connect_clients.new.all.items
    (arc_value c.in_ok-shared.shared) (arc_value c.in_ok-settings.settings) (first_of c.args.seats.items c.remove-first.new.self.items c.remove-first.result some c.remove-first.ensures.value c.remove-first.ensures.by_index.2) c.in_ok-settings.ensures.ok
    (c.in_ok-shared.ensures ∙ c.in_ok-settings.ensures.ok) c.connect_operator.ensures
    (c.in_ok-push.ensures.items ∙ ap (λ l. l ++ c.connect_operator.result ∷ []) c.new-all.ensures.items) c.in_ok-connect_clients.ensures
