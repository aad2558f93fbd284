-- The change of one link, or of one end of a list.
use Rattle.std.specs.Prelude.{◌≡◌, ℕ, ◌==◌, false, List, ◌∷◌, ◌++◌, length, Option, MatchOption, IfSome}
use Rattle.mp_tickets.specs.Inside.Cell.{cell, IsAt, AtCell}
use Rattle.mp_tickets.specs.Inside.Links.{StoredNode}
use Rattle.mp_tickets.specs.Inside.Chain.{bucket_back_at}
use Rattle.mp_tickets.specs.declared.node_store.NodePtr.{NodePtr}
use Rattle.mp_tickets.specs.declared.node.Link.{Link}
use Rattle.mp_tickets.specs.declared.chain.Chain.{Chain}

module _ {T : Type 0} where
  -- the node at p with its link changed
  abbrev pub Relinks : (Link T → Link T) → List (StoredNode T) → NodePtr → List (StoredNode T)
      → Type 0
  Relinks change old p new =
      AtCell old p.at (λ xs c ys. new ≡ xs ++ cell c.at (change c.value) ∷ ys)

  -- there is a node at `at`, or `at` is `None`
  abbrev pub MayBeAt : List (StoredNode T) → Option NodePtr → Type 0
  MayBeAt cs at = IfSome at (λ p. IsAt cs p.at)

  -- the link of the node at `at` leads to `to`; if there is no node, the end of the list does
  abbrev pub SetsOne : (Option NodePtr → Link T → Link T) → (at to end new_end : Option NodePtr)
      → (cs new_cs : List (StoredNode T)) → Type 0
  SetsOne change at to end new_end cs new_cs =
      MatchOption at ((new_end ≡ to) × (new_cs ≡ cs))
      (λ p. (new_end ≡ end) × Relinks (change to) cs p new_cs)

  abbrev pub with_next : Option NodePtr → Link T → Link T
  with_next to l = record l { next = to }

  abbrev pub with_prev : Option NodePtr → Link T → Link T
  with_prev to l = record l { prev = to }

  abbrev pub with_bucket_prev : Option NodePtr → Link T → Link T
  with_bucket_prev to l = record l { bucket_prev = to }

  pub record SetsNext (old new : Chain T) (at next : Option NodePtr) : Type 0 where
    pub here : SetsOne with_next at next old.front new.front old.nodes.cells new.nodes.cells
    pub back : new.back ≡ old.back
    pub bucket_backs : new.bucket_backs ≡ old.bucket_backs

  pub record SetsPrev (old new : Chain T) (at prev : Option NodePtr) : Type 0 where
    pub here : SetsOne with_prev at prev old.back new.back old.nodes.cells new.nodes.cells
    pub front : new.front ≡ old.front
    pub bucket_backs : new.bucket_backs ≡ old.bucket_backs

  pub record SetsBucketPrev (old new : Chain T) (k : ℕ) (at prev : Option NodePtr) : Type 0 where
    pub here :
        SetsOne with_bucket_prev at prev
        (bucket_back_at old.bucket_backs.items k) (bucket_back_at new.bucket_backs.items k)
        old.nodes.cells new.nodes.cells
    -- the other buckets don't change
    pub others : (j : ℕ) → (j == k) ≡ false
        → bucket_back_at new.bucket_backs.items j ≡ bucket_back_at old.bucket_backs.items j
    pub whole : length new.bucket_backs.items ≡ length old.bucket_backs.items
    pub front : new.front ≡ old.front
    pub back : new.back ≡ old.back
