use Rattle.std.proofs.Common.{subst, ap, ◌∙◌}
use Rattle.mp_script.specs.Datum.{IsDatum}
use Rattle.mp_script.specs.Inside.DatumRef.{octets_seen}
use Rattle.mp_script.proofs.DatumRefLaws.{octets_are_seen}
use Rattle.mp_script.proofs.datum_ref.DatumRef.octets.Goals as goal

pub returns : goal.returns
returns c = c.octets_in.ensures ∙ ap octets_seen c.self.view_is ∙ octets_are_seen c.args.self.now (subst IsDatum c.self.view_is c.self.invariant)
