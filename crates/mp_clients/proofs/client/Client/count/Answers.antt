use Rattle.mp_clients.specs.Client.{Client}
use Rattle.mp_clients.specs.Inside.Client.{client_of}
use Rattle.mp_clients.proofs.Responses.{counts_ok}
use Rattle.mp_clients.proofs.client.Client.count.Goals as goal

pub returns : goal.returns
returns g c =
    let i = c.self.inside in
    let k : Client = client_of i.pass i.signatures i.ledger i.former.items i.refused i.cursor in
    rw (← c.self.view_is) (counts_ok g.N.PoolName.accepts c.args.names.now k c.stats_line.result c.shown.result.now c.version.result.now.pool c.version.ensures.state c.shown.ensures c.stats_line.ensures)
