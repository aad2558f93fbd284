use Rattle.std.specs.Arc.{arc_value}
use Rattle.std.specs.Vec.Iter.{into_iter_items}
use Rattle.mp_clients.proofs.Connecting.{Connects}
use Rattle.mp_clients.proofs.service.connect_clients.Given as goal

-- the clients so far have their seats and devices
abbrev pub invariant-loop-device : goal.invariant-loop-device
invariant-loop-device g l =
    Connects (arc_value l.settings) l.fn.all.items l.fn.seats.items l.fn.devices.items l.all.items (into_iter_items l.seats) (into_iter_items l.device-iterator)
