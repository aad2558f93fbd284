use Rattle.std.proofs.Common.{Some, sym, ap, ◌∙◌}
use Rattle.std.specs.Prelude.{option_copied}
use Rattle.mp_rules.proofs.SameOutputs.{same_output-Decides}
use Rattle.mp_rules.proofs.unmoved.leads_to.Goals as goal

pub returns-in-Some : goal.returns-in-Some
returns-in-Some g c = λ e.
    sym c.get.ensures ∙ ap option_copied c.in-Some.is ∙ ap Some ((same_output-Decides c.in-Some.found.now c.args.output.now).0 (sym c.eq.ensures ∙ e))
