use Rattle.std.proofs.Common.{ap, ◌∙◌}
use Rattle.std.specs.Prelude.{is_some}
use Rattle.mp_seqpool.specs.SlowPool.{ticket_of}
use Rattle.mp_versions.specs.Version.{Version}
use Rattle.mp_versions.specs.Layout.{items_in}
use Rattle.mp_versions.proofs.Ids.{is_ticketed}
use Rattle.mp_versions.proofs.version.Version.has.Goals as goal

pub returns : goal.returns
returns c =
    c.has.ensures ∙ is_ticketed c.args.id.now (items_in c.self.inside.layout)
    ∙ ap (λ (v : Version). is_some (ticket_of c.args.id.now v.pool.items)) c.self.view_is
