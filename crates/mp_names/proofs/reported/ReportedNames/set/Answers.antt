use Rattle.std.proofs.Common.{ap, ◌∙◌}
use Rattle.std.specs.FinMap.{insert}
use Rattle.mp_names.proofs.Reporting.{set-entries}
use Rattle.mp_names.proofs.reported.ReportedNames.set.Goals as goal

pub returns-clause-ok : goal.returns-clause-ok
returns-clause-ok c =
    set-entries c.self.inside.names.entries c.insert.new.self.entries c.args.id c.args.name c.in_ok-insert.ensures.updates.0
    ∙ ap (λ r. insert r c.args.id c.args.name) c.self.view_is
