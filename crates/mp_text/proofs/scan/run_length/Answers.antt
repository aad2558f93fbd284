use Rattle.std.proofs.Common.{ap, ◌∙◌, length}
use Rattle.std.specs.Prelude.{unwrap_or}
use Rattle.mp_text.proofs.FirstPlace.{unwrap_or-position}
use Rattle.mp_text.proofs.scan.run_length.Goals as goal

pub returns-clause-first : goal.returns-clause-first
returns-clause-first c = c.unwrap_or.ensures ∙ ap (λ o. unwrap_or o (length c.args.bytes.now)) c.first_other.ensures ∙ unwrap_or-position _ c.args.bytes.now
