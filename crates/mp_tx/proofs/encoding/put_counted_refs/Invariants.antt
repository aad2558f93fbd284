use Rattle.std.proofs.Common.{◌≡◌, ◌++◌, length, take}
use Rattle.std.specs.Prelude.{flat_map}
use Rattle.std.specs.Int.{w16, to_be_bytes}
use Rattle.mp_tx.specs.Spelling.{ref_bytes}
use Rattle.mp_tx.proofs.encoding.put_counted_refs.Given as goal

abbrev pub invariant-loop-reference : goal.invariant-loop-reference
invariant-loop-reference l = l.out.items ≡ l.fn.out.items ++ to_be_bytes w16 (length l.references) ++ flat_map ref_bytes (take l.reference-index l.references)
