use Rattle.mp_versions.proofs.Histories.{lasts}
use Rattle.mp_versions.proofs.snapshot.Snapshot.lasts.Goals as goal

pub returns : goal.returns
returns g c =
    rw (← c.self.view_is, ← c.later.view_is) (λ le. lasts g.N.PoolName.accepts g.N.PoolName.callers c.self.inside.shown.now c.later.inside.shown.now c.version-2.ensures.legal
    (rw (c.front.ensures, c.front-2.ensures) at c.compare.ensures.this le))
