use Rattle.std.proofs.Common.{◌≡◌, ◌^◌, ℕ, ◌*◌}
use Rattle.mp_ed25519.specs.Field.{pow}
use Rattle.mp_ed25519.specs.Inside.Limbs.{AreWithin, element, tight}
use Rattle.mp_ed25519.proofs.power.squared.Given as goal

abbrev pub invariant-loop-i : goal.invariant-loop-i
invariant-loop-i l = record {
  within : AreWithin tight l.power;
  is_power : (z e : ℕ) → element l.fn.x ≡ pow z e → element l.power ≡ pow z (e * 2 ^ l._i);
}
