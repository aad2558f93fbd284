use Rattle.std.proofs.Common.{◌∙◌, ◌-◌, ◌*◌, ◌^◌}
use Rattle.mp_ed25519.specs.Inside.Limbs.{element}
use Rattle.mp_ed25519.proofs.Powers.{times}
use Rattle.mp_ed25519.proofs.field_element.FieldElement.inverted.Goals as goal

pub returns-clause-element : goal.returns-clause-element
returns-clause-element c =
    let z = element c.args.self.now in
    let e = c.squared.ensures.element z (2 ^ 250 - 1) c.first_powers-powers.ensures.long in
    c.mul.ensures.element ∙ times _ _ z ((2 ^ 250 - 1) * 2 ^ 5) 11 e c.first_powers-powers.ensures.eleventh
