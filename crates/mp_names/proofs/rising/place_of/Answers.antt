use Rattle.std.proofs.Common.{ap, ◌∙◌, length}
use Rattle.std.specs.Prelude.{unwrap_or}
use Rattle.mp_names.proofs.Places.{unwrap_or-position}
use Rattle.mp_names.proofs.rising.place_of.Goals as goal

pub returns-clause-place : goal.returns-clause-place
returns-clause-place g c = c.unwrap_or.ensures ∙ ap (λ o. unwrap_or o (length c.args.items.now)) c.first_greater.ensures ∙ unwrap_or-position _ c.args.items.now
