use Rattle.std.proofs.Common.{sym, subst, rules, append-nil}
use Rattle.std.specs.Arc.{arc_value}
use Rattle.std.specs.Vec.Iter.{into_iter_items}
use Rattle.mp_session.specs.declared.settings.Settings.{Settings}
use Rattle.mp_clients.specs.Inside.Connecting.{IsClientOf}
use Rattle.mp_clients.proofs.Seats.{none_left}
use Rattle.mp_clients.proofs.Connecting.{connects-start, connects-next, connects-all, connects-most}
use Rattle.mp_clients.proofs.service.connect_clients.Goals as goal

pub loop-device-init : goal.loop-device-init
loop-device-init g c =
    connects-start (arc_value c.args.settings.now) c.args.all.now.items c.args.seats.items (into_iter_items c.into_iter-seats.result) c.args.devices.items (into_iter_items c.into_iter-device-iterator.result) (sym (append-nil c.args.all.now.items))
    c.into_iter-seats.ensures.rest c.into_iter-device-iterator.ensures.into_iter_gives.0

pub returns-in_default : goal.returns-in_default
returns-in_default g c =
    connects-most (arc_value c.args.settings.now) c.args.all.now.items c.args.seats.items c.args.devices.items c.loop-device.all.items (into_iter_items c.loop-device.seats) (into_iter_items c.loop-device.device-iterator)
    (none_left c.loop-device.seats c.next-in-loop-device.new.self c.next-in-loop-device.result c.next-in-loop-device.ensures.cases (λ x e. search rules)) c.loop-device.invariant

pub loop-device-preserved : goal.loop-device-preserved
loop-device-preserved g c =
    connects-next (arc_value c.args.settings.now) c.args.all.now.items c.args.seats.items c.args.devices.items c.loop-device.all.items (into_iter_items c.loop-device.seats) (into_iter_items c.loop-device.device-iterator)
    c.in-Some-next.seat (into_iter_items c.next-in-loop-device.new.self) c.in-Some.device (into_iter_items c.next.new.self) c.connect_client.result c.push.new.self.items c.loop-device.invariant c.in-Some-next.ensures.cases.0 c.in-Some.ensures.steps.0
    (subst (λ (s : Settings). IsClientOf s c.in-Some-next.seat c.in-Some.device c.connect_client.result) c.in_ok-shared.ensures c.connect_client.ensures) c.in_ok-push.ensures.items

pub returns : goal.returns
returns g c =
    connects-all (arc_value c.args.settings.now) c.args.all.now.items c.args.seats.items c.args.devices.items c.loop-device.all.items (into_iter_items c.loop-device.seats) (into_iter_items c.loop-device.device-iterator)
    (none_left c.loop-device.device-iterator c.next.new.self c.next.result c.next.ensures.steps (λ x e. search rules)) c.loop-device.invariant
