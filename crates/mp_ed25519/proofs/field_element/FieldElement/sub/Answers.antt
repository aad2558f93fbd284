use Rattle.std.proofs.Common.{arith}
use Rattle.mp_ed25519.specs.Field.{sub}
use Rattle.mp_ed25519.specs.Inside.Limbs.{element}
use Rattle.mp_ed25519.proofs.field_element.FieldElement.sub.Goals as goal

pub returns-clause-element : goal.returns-clause-element
unfolding element sub
returns-clause-element c = omega arith
