-- References to outputs and their order.
use Rattle.std.specs.Prelude.{Bool, ◌&&◌, ◌==◌, nat_eq}
use Rattle.std.specs.Ordering.{nat_cmp, ordering_then}
use Rattle.std.specs.Cmp.Lexicographic.{pointwise, slice_cmp}
use Rattle.std.specs.declared.cmp.Ordering.{Ordering}
use Rattle.mp_tx.specs.declared.reference.OutRef.{OutRef}

-- by transaction id, and then by index
abbrev pub ref_cmp : OutRef → OutRef → Ordering
ref_cmp a b = ordering_then (slice_cmp nat_cmp a.id b.id) (nat_cmp a.index b.index)

-- the same transaction, and the same place among its outputs
abbrev pub same_ref : OutRef → OutRef → Bool
same_ref a b = pointwise nat_eq a.id b.id && (a.index == b.index)
