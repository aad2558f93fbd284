use Rattle.std.proofs.Common.{rules}
use Rattle.mp_ed25519.specs.Inside.Limbs.{element}
use Rattle.mp_ed25519.proofs.field_element.FieldElement.one.Goals as goal

pub returns-clause-element : goal.returns-clause-element
unfolding element
returns-clause-element c = search rules
