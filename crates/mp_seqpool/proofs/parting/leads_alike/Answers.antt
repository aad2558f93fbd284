use Rattle.std.proofs.Common.{Some, sym, ap, ◌∙◌}
use Rattle.std.specs.Prelude.{option_copied}
use Rattle.mp_rules.proofs.SameOutputs.{same_output-Decides}
use Rattle.mp_seqpool.proofs.parting.leads_alike.Goals as goal

pub returns-in-Some-get : goal.returns-in-Some-get
returns-in-Some-get c = λ e.
    sym c.get.ensures ∙ ap option_copied c.in-Some.is ∙ ap Some ((same_output-Decides c.in-Some.before.now c.in-Some-get.after.now).0 (sym c.eq.ensures ∙ e))
    ∙ sym (ap option_copied c.in-Some-get.is) ∙ c.get-in-Some.ensures
