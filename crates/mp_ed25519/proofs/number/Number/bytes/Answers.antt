use Rattle.std.proofs.Common.{arith}
use Rattle.mp_ed25519.proofs.Bytes.{bytes_of-read}
use Rattle.mp_ed25519.proofs.number.Number.bytes.Goals as goal

pub returns : goal.returns
returns c =
    let n = c.args.self.now in
    bytes_of-read _ _ _ _ n.w0 n.w1 n.w2 n.w3 c.to_le_bytes-a.ensures c.to_le_bytes-b.ensures
    c.to_le_bytes-c.ensures c.to_le_bytes-d.ensures (omega arith) (omega arith) (omega arith)
