use Rattle.std.proofs.Common.{subst, ap, ◌∙◌}
use Rattle.mp_script.specs.Datum.{IsDatum}
use Rattle.mp_script.specs.Inside.DatumRef.{number_seen}
use Rattle.mp_script.proofs.DatumRefLaws.{number_is_seen}
use Rattle.mp_script.proofs.datum_ref.DatumRef.number.Goals as goal

pub returns : goal.returns
returns c = c.number_in.ensures ∙ ap number_seen c.self.view_is ∙ number_is_seen c.args.self.now (subst IsDatum c.self.view_is c.self.invariant)
