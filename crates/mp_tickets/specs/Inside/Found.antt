-- What a search for a ticket finds.
use Rattle.std.specs.Prelude.{◌≡◌, ℕ, ◌%◌, List, [], ◌∷◌, ◌++◌, Option, None}
use Rattle.mp_tickets.specs.Tickets.{after}
use Rattle.mp_tickets.specs.Inside.Links.{StoredNode, first_of, pairs, nexts, bucket_prevs}
use Rattle.mp_tickets.specs.declared.node_store.NodePtr.{NodePtr}
use Rattle.mp_tickets.specs.declared.chain.Found.{Found}

module _ {T : Type 0} where
  -- a node with the ticket is there, and this is the next one in its bucket, which is one of m
  abbrev pub IsFound : ℕ → ℕ → List (StoredNode T) → Found → Type 0
  IsFound m ticket cs f =
      (xs : List (StoredNode T)) × (c : StoredNode T) × (ys : List (StoredNode T))
      × (cs ≡ xs ++ c ∷ ys) × (c.at ≡ f.ptr.at) × (c.value.ticket ≡ ticket)
      × (f.bucket_next ≡ first_of (bucket_prevs m (ticket % m) ys) None)

  -- no node has the ticket
  abbrev pub HasNone : ℕ → List (StoredNode T) → Type 0
  HasNone ticket [] = Unit {0}
  HasNone ticket (c ∷ cs) = ((c.value.ticket ≡ ticket) → ⊥) × HasNone ticket cs

  -- `at` leads to the first node with a greater ticket
  abbrev pub IsFirstAfter : ℕ → List (StoredNode T) → Option NodePtr → Type 0
  IsFirstAfter ticket cs at =
      (xs : List (StoredNode T)) × (ys : List (StoredNode T)) × (cs ≡ xs ++ ys)
      × (at ≡ first_of (nexts ys) None) × (pairs ys ≡ after (pairs cs) ticket)
