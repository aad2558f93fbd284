use Rattle.std.proofs.Common.{arith}
use Rattle.mp_ed25519.proofs.Bytes.{little-32}
use Rattle.mp_ed25519.proofs.number.Number.of_bytes.Goals as goal

pub returns : goal.returns
returns c =
    let e = little-32 c.args.bytes.now (omega arith) in
    omega (arith, e, c.word.ensures, c.word-2.ensures, c.word-3.ensures, c.word-4.ensures)
