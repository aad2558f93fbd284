use Rattle.std.proofs.Common.{arith}
use Rattle.mp_ed25519.specs.Inside.Limbs.{element}
use Rattle.mp_ed25519.proofs.number.Number.of_element.Goals as goal

pub returns-clause-value : goal.returns-clause-value
unfolding element
returns-clause-value c = omega arith
