use Rattle.std.proofs.Common.{◌≡◌, ◌∙◌, ◌-◌, ◌*◌, ◌^◌}
use Rattle.mp_ed25519.specs.Field.{pow}
use Rattle.mp_ed25519.specs.Inside.Limbs.{element}
use Rattle.mp_ed25519.proofs.Powers.{first_power, times}
use Rattle.mp_ed25519.proofs.power.first_powers.Goals as goal

pub returns-clause-eleventh : goal.returns-clause-eleventh
returns-clause-eleventh c =
    let z = element c.args.z.now in
    let e1 = first_power c.args.z.now in
    let e2 : element c.square-z2.result ≡ pow z 2 = c.square-z2.ensures.element ∙ times _ _ z 1 1 e1 e1 in
    let e8 : element c.squared.result ≡ pow z 8 = c.squared.ensures.element z 2 e2 in
    let e9 : element c.mul-z9.result ≡ pow z 9 = c.mul-z9.ensures.element ∙ times _ _ z 1 8 e1 e8 in
    let e11 : element c.mul-z11.result ≡ pow z 11 = c.mul-z11.ensures.element ∙ times _ _ z 2 9 e2 e9 in
    e11

pub returns-clause-long : goal.returns-clause-long
returns-clause-long c =
    let z = element c.args.z.now in
    let e1 = first_power c.args.z.now in
    let e2 : element c.square-z2.result ≡ pow z 2 = c.square-z2.ensures.element ∙ times _ _ z 1 1 e1 e1 in
    let e8 : element c.squared.result ≡ pow z 8 = c.squared.ensures.element z 2 e2 in
    let e9 : element c.mul-z9.result ≡ pow z 9 = c.mul-z9.ensures.element ∙ times _ _ z 1 8 e1 e8 in
    let e11 : element c.mul-z11.result ≡ pow z 11 = c.mul-z11.ensures.element ∙ times _ _ z 2 9 e2 e9 in
    let e22 : element c.square.result ≡ pow z 22 = c.square.ensures.element ∙ times _ _ z 11 11 e11 e11 in
    let m5 : element c.mul-z_5.result ≡ pow z (2 ^ 5 - 1) = c.mul-z_5.ensures.element ∙ times _ _ z 9 22 e9 e22 in
    let s10 : element c.squared-2.result ≡ pow z ((2 ^ 5 - 1) * 2 ^ 5) = c.squared-2.ensures.element z (2 ^ 5 - 1) m5 in
    let m10 : element c.mul-z_10.result ≡ pow z (2 ^ 10 - 1) = c.mul-z_10.ensures.element ∙ times _ _ z ((2 ^ 5 - 1) * 2 ^ 5) (2 ^ 5 - 1) s10 m5 in
    let s20 : element c.squared-3.result ≡ pow z ((2 ^ 10 - 1) * 2 ^ 10) = c.squared-3.ensures.element z (2 ^ 10 - 1) m10 in
    let m20 : element c.mul-z_20.result ≡ pow z (2 ^ 20 - 1) = c.mul-z_20.ensures.element ∙ times _ _ z ((2 ^ 10 - 1) * 2 ^ 10) (2 ^ 10 - 1) s20 m10 in
    let s40 : element c.squared-4.result ≡ pow z ((2 ^ 20 - 1) * 2 ^ 20) = c.squared-4.ensures.element z (2 ^ 20 - 1) m20 in
    let m40 : element c.mul-z_40.result ≡ pow z (2 ^ 40 - 1) = c.mul-z_40.ensures.element ∙ times _ _ z ((2 ^ 20 - 1) * 2 ^ 20) (2 ^ 20 - 1) s40 m20 in
    let s50 : element c.squared-5.result ≡ pow z ((2 ^ 40 - 1) * 2 ^ 10) = c.squared-5.ensures.element z (2 ^ 40 - 1) m40 in
    let m50 : element c.mul-z_50.result ≡ pow z (2 ^ 50 - 1) = c.mul-z_50.ensures.element ∙ times _ _ z ((2 ^ 40 - 1) * 2 ^ 10) (2 ^ 10 - 1) s50 m10 in
    let s100 : element c.squared-6.result ≡ pow z ((2 ^ 50 - 1) * 2 ^ 50) = c.squared-6.ensures.element z (2 ^ 50 - 1) m50 in
    let m100 : element c.mul-z_100.result ≡ pow z (2 ^ 100 - 1) = c.mul-z_100.ensures.element ∙ times _ _ z ((2 ^ 50 - 1) * 2 ^ 50) (2 ^ 50 - 1) s100 m50 in
    let s200 : element c.squared-7.result ≡ pow z ((2 ^ 100 - 1) * 2 ^ 100) = c.squared-7.ensures.element z (2 ^ 100 - 1) m100 in
    let m200 : element c.mul-z_200.result ≡ pow z (2 ^ 200 - 1) = c.mul-z_200.ensures.element ∙ times _ _ z ((2 ^ 100 - 1) * 2 ^ 100) (2 ^ 100 - 1) s200 m100 in
    let s250 : element c.squared-8.result ≡ pow z ((2 ^ 200 - 1) * 2 ^ 50) = c.squared-8.ensures.element z (2 ^ 200 - 1) m200 in
    let m250 : element c.mul-z_250.result ≡ pow z (2 ^ 250 - 1) = c.mul-z_250.ensures.element ∙ times _ _ z ((2 ^ 200 - 1) * 2 ^ 50) (2 ^ 50 - 1) s250 m50 in
    m250
