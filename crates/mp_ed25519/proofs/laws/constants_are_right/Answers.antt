use Rattle.std.proofs.Common.{refl}
use Rattle.mp_ed25519.specs.Field.{add, sub, mul}
use Rattle.mp_ed25519.proofs.laws.constants_are_right.Goals as goal

pub returns : goal.returns
unfolding add sub mul
returns c = (refl, refl, refl, refl, refl, refl, refl)
