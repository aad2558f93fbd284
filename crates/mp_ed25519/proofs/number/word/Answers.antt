use Rattle.std.proofs.Common.{arith, ◌+◌, refl}
use Rattle.mp_ed25519.proofs.Bytes.{little-drop}
use Rattle.mp_ed25519.proofs.number.word.Goals as goal

pub returns : goal.returns
returns c =
    let bs = c.args.bytes.now in
    let i = c.args.at in
    omega (
      arith,
      little-drop 4 bs i (i + 4) refl (omega arith),
      little-drop 4 bs (i + 4) (i + 8) (omega arith) (omega arith),
      little-drop 8 bs i (i + 8) refl (omega arith),
      c.half_word.ensures.value,
      c.half_word-2.ensures.value,
    )
