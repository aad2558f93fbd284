use Rattle.mp_clients.proofs.Connecting.{all_ready, served_ok}
use Rattle.mp_clients.proofs.service.serve.Goals as goal

pub serve_all-requires-clause-ready : goal.serve_all-requires-clause-ready
serve_all-requires-clause-ready g c κs within =
    all_ready g.D.Device.turn c.args.operator c.args.line.items c.args.device c.args.opened.seats.items c.args.clients.items c.in_ok-all.all.items c.in_ok-all.ensures c.requires.owes c.requires.listen

pub returns-clause-served : goal.returns-clause-served
returns-clause-served g c =
    served_ok g.N.PoolName.accepts g.N.PoolName.callers g.D.Device.input g.D.Device.output c.serve_all.result c.args.operator c.args.line.items c.args.device c.args.opened.seats.items c.args.clients.items c.in_ok-all.all.items
    c.in_ok-all.ensures c.serve_all.ensures.len c.serve_all.ensures.each
