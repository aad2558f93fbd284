-- The store after a `&mut` to a value has ended.
use Rattle.std.specs.Borrow.{Fml, RattleType, MutBor, Lends}
use mathlib.Core.Path.{sym, subst}
use denote.RawPtr.{Ptr}
use Rattle.lru.specs.Linked.{IsApart}
use Rattle.mp_tickets.specs.Inside.Cell.{set_value, ptrs-set_value}
use Rattle.mp_tickets.specs.declared.node_store.NodeStore.{NodeStore}
use Rattle.mp_tickets.specs.contracts.node_store.NodeStore.{the_row}

-- the same store with w as the value at p
abbrev pub with_value : {N : Type 0} → NodeStore N → Ptr → N → NodeStore N
with_value h p w = record {
  mark = h.mark;
  cells = set_value p w h.cells;
  apart = subst IsApart (sym (ptrs-set_value p w h.cells)) h.apart;
}

abbrev pub lends_cell : (N : RattleType) → MutBor (NodeStore N.Denot) → Ptr → MutBor N.Denot → Fml
lends_cell N h p r = Lends (the_row N) N h r (with_value h.now p)
