use Rattle.std.proofs.Common.{ap, sym, ◌∙◌}
use Rattle.std.specs.Prelude.{cond}
use Rattle.std.specs.FinMap.{remove}
use Rattle.mp_names.proofs.Reporting.{removed-entries}
use Rattle.mp_names.proofs.reported.ReportedNames.forget.Goals as goal

pub returns-then-is_under : goal.returns-then-is_under
returns-then-is_under c =
    removed-entries c.self.inside.names.entries c.remove_name.new.names.entries c.args.id.now c.remove_name.ensures
    ∙ ap (λ r. remove r c.args.id.now) c.self.view_is
    ∙ ap (λ b. cond b (remove c.args.self.now c.args.id.now) c.args.self.now) (sym c.if-is_under.true ∙ c.is_under.ensures)

pub returns-else-is_under : goal.returns-else-is_under
returns-else-is_under c =
    ap (λ b. cond b (remove c.args.self.now c.args.id.now) c.args.self.now) (sym c.if-is_under.false ∙ c.is_under.ensures)
