-- Numbers of 256 bits as four words of 64, lowest first.
use Rattle.std.specs.Prelude.{ℕ, ◌+◌, ◌*◌, ◌^◌}
use Rattle.mp_ed25519.specs.declared.number.Number.{Number}

abbrev pub number_of : Number → ℕ
number_of n = n.w0 + 2 ^ 64 * n.w1 + 2 ^ 128 * n.w2 + 2 ^ 192 * n.w3
