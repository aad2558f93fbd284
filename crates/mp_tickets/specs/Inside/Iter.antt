-- The remaining nodes of an iterator.
use Rattle.std.specs.Prelude.{◌≡◌, cond, List, [], ◌∷◌, ◌++◌, Option, Some, None}
use Rattle.lru.specs.Linked.{same_ptr}
use Rattle.mp_tickets.specs.Inside.Links.{StoredNode, nexts, first_of, Forward}
use Rattle.mp_tickets.specs.declared.node_store.NodePtr.{NodePtr}

-- the nodes from the one at the pointer on
abbrev pub nodes_from : {T : Type 0} → Option NodePtr → List (StoredNode T) → List (StoredNode T)
nodes_from None cs = []
nodes_from (Some p) [] = []
nodes_from (Some p) (c ∷ cs) = cond (same_ptr p.at c.at) (c ∷ cs) (nodes_from (Some p) cs)

-- the list leads from the pointer through all remaining nodes
abbrev pub LeadsOn : {T : Type 0} → Option NodePtr → List (StoredNode T) → Type 0
LeadsOn {T} at cs =
    (xs : List (StoredNode T)) × (ys : List (StoredNode T)) × (cs ≡ xs ++ ys)
    × (at ≡ first_of (nexts ys) None) × Forward (nexts ys) None
