use Rattle.std.proofs.Common.{sym, ap, ◌∙◌}
use Rattle.std.specs.Cmp.Lexicographic.{bytes_decides}
use Rattle.sha2.specs.Sha256.{sha256}
use Rattle.mp_bytes.proofs.Known.{one, unit}
use Rattle.mp_bytes.proofs.hash.digest.Goals as goal

pub returns-then-eq : goal.returns-then-eq
returns-then-eq c = sym one ∙ ap sha256 (sym ((bytes_decides c.args.bytes.now c.as_slice.result.now).0 (sym c.eq.ensures ∙ c.if-eq.true) ∙ c.as_slice.ensures))

pub returns-then-eq-2 : goal.returns-then-eq-2
returns-then-eq-2 c = sym unit ∙ ap sha256 (sym ((bytes_decides c.args.bytes.now c.as_slice-2.result.now).0 (sym c.eq-2.ensures ∙ c.if-eq-2.true) ∙ c.as_slice-2.ensures))
