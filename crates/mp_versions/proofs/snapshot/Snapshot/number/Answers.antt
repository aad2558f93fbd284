use Rattle.std.proofs.Common.{length, ap, ◌∙◌}
use Rattle.mp_seqpool.specs.Pool.{Pool}
use Rattle.mp_history.specs.Log.{Log}
use Rattle.mp_versions.proofs.Histories.{number_of}
use Rattle.mp_versions.proofs.snapshot.Snapshot.number.Goals as goal

pub returns : goal.returns
returns g c =
    c.number.ensures ∙ ap (λ (p : Pool). p.changes) c.version.ensures.state ∙ number_of g.N.PoolName.accepts g.N.PoolName.callers c.self.inside.shown.now c.version.ensures.legal
    ∙ ap (λ (log : Log). length log.entries) c.self.view_is
