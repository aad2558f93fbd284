-- How links lead through the nodes of a store.
use Rattle.std.specs.Prelude.{◌≡◌, ℕ, ◌%◌, ◌==◌, cond, List, [], ◌∷◌, map, Option, Some}
use Rattle.mp_tickets.specs.Inside.Cell.{Cell}
use Rattle.mp_tickets.specs.declared.node_store.NodePtr.{NodePtr}
use Rattle.mp_tickets.specs.declared.node.Link.{Link}

-- a pointer to a node, and the target of one of its links
abbrev pub Step : Type 0
Step = NodePtr × Option NodePtr

-- the first pointer, or n if there is none
abbrev pub first_of : List Step → Option NodePtr → Option NodePtr
first_of [] n = n
first_of (s ∷ ss) n = Some s.0

-- the last pointer, or p if there is none
abbrev pub last_of : Option NodePtr → List Step → Option NodePtr
last_of p [] = p
last_of p (s ∷ ss) = last_of (Some s.0) ss

-- each link leads to the node after it, and the last one to n
abbrev pub Forward : List Step → Option NodePtr → Type 0
Forward [] n = Unit {0}
Forward (s ∷ ss) n = (s.1 ≡ first_of ss n) × Forward ss n

-- each link leads to the node before it, and the first one to p
abbrev pub Back : Option NodePtr → List Step → Type 0
Back p [] = Unit {0}
Back p (s ∷ ss) = (s.1 ≡ p) × Back (Some s.0) ss

-- a node in the store
abbrev pub StoredNode : Type 0 → Type 0
StoredNode T = Cell (Link T)

module _ {T : Type 0} where
  abbrev pub ptr_of : StoredNode T → NodePtr
  ptr_of c = record { at = c.at }

  -- the tickets with their items
  abbrev pub pairs : List (StoredNode T) → List (ℕ × T)
  pairs = map (λ c. (c.value.ticket, c.value.item))

  abbrev pub nexts : List (StoredNode T) → List Step
  nexts = map (λ c. (ptr_of c, c.value.next))

  abbrev pub prevs : List (StoredNode T) → List Step
  prevs = map (λ c. (ptr_of c, c.value.prev))

  -- the links of bucket k of m
  abbrev pub bucket_prevs : ℕ → ℕ → List (StoredNode T) → List Step
  bucket_prevs m k [] = []
  bucket_prevs m k (c ∷ cs) =
      cond (c.value.ticket % m == k) ((ptr_of c, c.value.bucket_prev) ∷ bucket_prevs m k cs)
      (bucket_prevs m k cs)
