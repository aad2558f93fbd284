use Rattle.std.proofs.Common.{arith, ap, ◌≤◌, ◌*◌, ◌-◌, ◌%◌, ◌∙◌, sym, length}
use Rattle.std.proofs.Math.ListN.{drop_of_length-le}
use Rattle.mp_ed25519.specs.Ed25519.{little, order}
use Rattle.mp_ed25519.proofs.Bytes.{little-drop}
use Rattle.mp_ed25519.proofs.scalar.reduced.Goals as goal

pub loop-i-init : goal.loop-i-init
unfolding little
loop-i-init c =
    let all : length c.args.bytes.now ≤ 64 = omega arith in
    c.zero-scalar.ensures ∙ sym (ap (λ n. n % order) (ap little (drop_of_length-le c.args.bytes.now all)))

pub loop-i-preserved : goal.loop-i-preserved
loop-i-preserved c =
    let q = little-drop 4 c.args.bytes.now (4 * (c.loop-i.i - 1)) (4 * c.loop-i.i) (omega arith) (omega arith) in
    omega (arith, q, c.half_word.ensures.value, c.shifted-scalar.ensures, c.loop-i.invariant)
