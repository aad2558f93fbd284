use Rattle.std.proofs.Common.{refl}
use Rattle.mp_clients.proofs.Clients.{opening-seen, still}
use Rattle.mp_clients.proofs.client.Client.look.Goals as goal

pub invariant_of-self : goal.invariant_of-self
invariant_of-self g c =
    let i = c.self.inside in
    still g.N.PoolName.accepts i.signatures i.limit i.pass c.refresh.new.pass i.ledger i.ledger i.former.items i.former.items
    (opening-seen g.N.PoolName.accepts g.N.PoolName.callers i.pass c.refresh.new.pass c.refresh.ensures.seen) c.self.invariant.few c.self.invariant.can c.self.invariant

pub returns : goal.returns
returns g c = rw (← c.self.view_is) (record { seen = c.refresh.ensures.seen; same = refl })
