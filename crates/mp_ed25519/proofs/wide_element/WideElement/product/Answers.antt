use Rattle.std.proofs.Common.{arith, ◌∙◌, ◌*◌}
use Rattle.std.proofs.lemmas.Nat.{mul-mod}
use Rattle.mp_ed25519.specs.Field.{prime, mul}
use Rattle.mp_ed25519.specs.Inside.Limbs.{element, value_of}
use Rattle.mp_ed25519.proofs.Limbs.{high, same_element}
use Rattle.mp_ed25519.proofs.wide_element.WideElement.product.Goals as goal

pub returns : goal.returns
unfolding element mul
returns c =
    let a = c.args.a.now in
    let b = c.args.b.now in
    same_element _ (value_of a * value_of b) (high a.l1 a.l2 a.l3 a.l4 b.l1 b.l2 b.l3 b.l4) (omega arith)
    ∙ mul-mod (value_of a) (value_of b) prime
