use Rattle.std.proofs.Common.{[], ◌∷◌, ◌++◌}
use Rattle.mp_seqpool.specs.Command.{Sync}
use Rattle.mp_serve.specs.ServedPool.{latest}
use Rattle.mp_serve.specs.Inside.Former.{states_of}
use Rattle.mp_clients.specs.Client.{Client}
use Rattle.mp_clients.specs.Inside.Client.{client_of}
use Rattle.mp_clients.proofs.Clients.{opening-asked, still, asked_adopted}
use Rattle.mp_clients.proofs.client.Client.go_on.Goals as goal

pub invariant_of-self : goal.invariant_of-self
invariant_of-self g c =
    let i = c.self.inside in
    still g.N.PoolName.accepts i.signatures i.limit i.pass c.go_on.new.pass i.ledger c.go_on.new.now i.former.items c.go_on.new.formers.items
    (opening-asked g.N.PoolName.accepts g.N.PoolName.callers i.pass (Sync c.args.ledger) c.go_on.result c.go_on.new.pass c.go_on.ensures.ok c.go_on.ensures.err) c.go_on.ensures.few c.go_on.ensures.can c.self.invariant

pub returns-clause-ok : goal.returns-clause-ok
returns-clause-ok g c =
    let i = c.self.inside in
    let k : Client = client_of i.pass i.signatures i.ledger i.former.items i.refused i.cursor in
    let states = states_of c.go_on.new.formers.items c.go_on.new.now in
    rw (← c.self.view_is) (asked_adopted g.N.PoolName.accepts g.N.PoolName.callers k (Sync c.args.ledger) c.args.ledger (latest (k.former ++ k.ledger ∷ [])) c.go_on.result c.go_on.new.pass states c.go_on.new.now
    c.go_on.ensures.ok c.go_on.ensures.formers c.go_on.ensures.now)
