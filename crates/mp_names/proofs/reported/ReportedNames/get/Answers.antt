use Rattle.std.proofs.Common.{ap, ◌∙◌}
use Rattle.std.specs.FinMap.{get}
use Rattle.mp_names.proofs.Reporting.{found-get}
use Rattle.mp_names.proofs.reported.ReportedNames.get.Goals as goal

pub returns : goal.returns
returns c = c.get.ensures.value ∙ found-get c.self.inside.names.entries c.args.id.now ∙ ap (λ r. get r c.args.id.now) c.self.view_is
