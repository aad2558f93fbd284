use Rattle.std.proofs.Common.{arith, sym, ap, ◌∙◌}
use Rattle.std.proofs.lemmas.Int.{ints}
use Rattle.mp_bundle.specs.Token.{coin}
use Rattle.mp_bundle.specs.Bundle.{quantity_of}
use Rattle.mp_bundle.proofs.Parted.{coin_in}
use Rattle.mp_bundle.proofs.bundle.Bundle.coin.Goals as goal

pub returns : goal.returns
returns c =
    let is = ap (λ es. quantity_of es coin) (sym c.self.view_is) ∙ coin_in c.self.inside.coin _ c.self.invariant.above in
    omega (arith, ints, is)
