use Rattle.std.proofs.Common.{arith, ◌∙◌, ◌*◌}
use Rattle.std.proofs.lemmas.Nat.{mul-mod}
use Rattle.mp_ed25519.specs.Field.{prime, mul}
use Rattle.mp_ed25519.specs.Inside.Limbs.{element, value_of}
use Rattle.mp_ed25519.proofs.Limbs.{high, same_element}
use Rattle.mp_ed25519.proofs.wide_element.WideElement.square.Goals as goal

pub returns : goal.returns
unfolding element mul
returns c =
    let a = c.args.a.now in
    same_element _ (value_of a * value_of a) (high a.l1 a.l2 a.l3 a.l4 a.l1 a.l2 a.l3 a.l4) (omega arith)
    ∙ mul-mod (value_of a) (value_of a) prime
