use Rattle.std.proofs.Common.{refl}
use Rattle.mp_clients.specs.Client.{Client}
use Rattle.mp_clients.specs.Inside.Client.{client_of}
use Rattle.mp_clients.proofs.Responses.{reads}
use Rattle.mp_clients.proofs.client.Client.query.Goals as goal

pub returns-clause-ok : goal.returns-clause-ok
returns-clause-ok g c =
    let i = c.self.inside in
    let k : Client = client_of i.pass i.signatures i.ledger i.former.items i.refused i.cursor in
    rw (← c.self.view_is) (reads g.N.PoolName.accepts c.args.names.now k c.args.query c.shown-shown.result.now _ _ _ c.shown-shown.ensures c.in_ok-line.ensures.text c.in_ok-line.ensures.cursor refl)
