use Rattle.std.proofs.Common.{arith}
use Rattle.mp_ed25519.proofs.Bytes.{little-take4}
use Rattle.mp_ed25519.proofs.number.half_word.Goals as goal

pub returns-clause-value : goal.returns-clause-value
returns-clause-value c = omega (arith, little-take4 c.args.bytes.now c.args.at (omega arith))
