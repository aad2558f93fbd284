use Rattle.std.proofs.Common.{◌≡◌, length, not}
use Rattle.std.specs.Prelude.{filter}
use Rattle.mp_names.specs.Inside.BindingTable.{has_name}
use Rattle.mp_names.proofs.binding_table.BindingTable.forget.Given as goal

-- the other bindings have stayed so far
abbrev pub invariant-loop : goal.invariant-loop
invariant-loop l = filter (λ n. not (has_name l.word n)) l.self ≡ filter (λ n. not (has_name l.word n)) l.fn.self

abbrev pub decreases-loop : goal.decreases-loop
decreases-loop l = length l.self
