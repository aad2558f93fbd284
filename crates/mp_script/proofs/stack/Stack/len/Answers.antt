use Rattle.std.proofs.Common.{length, ap, sym, ◌∙◌}
use Rattle.std.proofs.lemmas.List.{length-reverse}
use Rattle.mp_script.proofs.stack.Stack.len.Goals as goal

pub returns-clause-same : goal.returns-clause-same
returns-clause-same g c = c.len.ensures.value ∙ sym (length-reverse c.self.inside.places.items) ∙ ap length c.self.view_is

pub returns-clause-room : goal.returns-clause-room
returns-clause-room g c = c.len.ensures.fits
