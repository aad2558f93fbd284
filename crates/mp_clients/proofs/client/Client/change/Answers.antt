use Rattle.mp_seqpool.specs.Inside.Command.{command_of}
use Rattle.mp_clients.specs.Client.{Client}
use Rattle.mp_clients.specs.Inside.Client.{client_of}
use Rattle.mp_clients.proofs.Clients.{opening-asked, still, asked_moved}
use Rattle.mp_clients.proofs.client.Client.change.Goals as goal

pub invariant_of-self : goal.invariant_of-self
invariant_of-self g c =
    let i = c.self.inside in
    still g.N.PoolName.accepts i.signatures i.limit i.pass c.ask_pool.new.pass i.ledger i.ledger i.former.items i.former.items
    (opening-asked g.N.PoolName.accepts g.N.PoolName.callers i.pass (command_of c.args.command.now) c.ask_pool.result c.ask_pool.new.pass c.ask_pool.ensures.ok c.ask_pool.ensures.err) c.self.invariant.few c.self.invariant.can c.self.invariant

pub returns-clause-ok : goal.returns-clause-ok
returns-clause-ok g c =
    let i = c.self.inside in
    let k : Client = client_of i.pass i.signatures i.ledger i.former.items i.refused i.cursor in
    rw (← c.self.view_is) (asked_moved g.N.PoolName.accepts g.N.PoolName.callers k (command_of c.args.command.now) c.ask_pool.result c.ask_pool.new.pass c.ask_pool.ensures.ok)
