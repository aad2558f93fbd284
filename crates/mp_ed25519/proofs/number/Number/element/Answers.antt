use Rattle.std.proofs.Common.{arith, ap, ◌%◌, ℕ}
use Rattle.mp_ed25519.specs.Field.{prime}
use Rattle.mp_ed25519.specs.Inside.Limbs.{element}
use Rattle.mp_ed25519.proofs.number.Number.element.Goals as goal

pub returns-clause-element : goal.returns-clause-element
unfolding element
returns-clause-element c = ap (λ (n : ℕ). n % prime) (omega arith)
