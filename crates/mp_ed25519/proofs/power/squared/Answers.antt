use Rattle.std.proofs.Common.{◌≡◌, ◌∙◌, ◌*◌, ◌^◌, rules, arith, ap}
use Rattle.mp_ed25519.specs.Field.{pow}
use Rattle.mp_ed25519.proofs.Powers.{squared_more}
use Rattle.mp_ed25519.proofs.power.squared.Goals as goal

pub loop-i-init : goal.loop-i-init
loop-i-init c = record {
  within = search rules;
  is_power = λ z e h. let f : e ≡ e * 2 ^ 0 = omega arith in h ∙ ap (pow z) f;
}

pub loop-i-preserved : goal.loop-i-preserved
loop-i-preserved c = record {
  within = c.square-power.ensures.tight;
  is_power = λ z e h.
      squared_more _ _ z e c.loop-i._i (c.loop-i.invariant.is_power z e h) c.square-power.ensures.element;
}
