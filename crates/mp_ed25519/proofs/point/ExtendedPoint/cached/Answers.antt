use Rattle.mp_ed25519.specs.Field.{add}
use Rattle.mp_ed25519.specs.Inside.Limbs.{element}
use Rattle.mp_ed25519.proofs.point.ExtendedPoint.cached.Goals as goal

pub returns : goal.returns
unfolding element add
returns c = (c.add.ensures.element, c.sub.ensures.element, c.add-2.ensures.element, c.mul.ensures.element)
