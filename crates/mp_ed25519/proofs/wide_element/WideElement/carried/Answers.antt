use Rattle.std.proofs.Common.{arith}
use Rattle.mp_ed25519.specs.Inside.Limbs.{element}
use Rattle.mp_ed25519.proofs.Limbs.{same_element}
use Rattle.mp_ed25519.proofs.wide_element.WideElement.carried.Goals as goal

pub returns-clause-element : goal.returns-clause-element
unfolding element
returns-clause-element c = same_element _ _ c.high_part-5.result (omega arith)
