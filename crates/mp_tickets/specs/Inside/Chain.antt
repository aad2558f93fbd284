-- A chain: its links lead through all nodes of its store, and its ends are theirs.
use Rattle.std.specs.Prelude.{◌≡◌, ℕ, ◌<◌, List, length, slice_index_or, Option, None}
use Rattle.mp_tickets.specs.Inside.Links.{first_of, last_of, Forward, Back, nexts, prevs, bucket_prevs}
use Rattle.mp_tickets.specs.declared.node_store.NodePtr.{NodePtr}
use Rattle.mp_tickets.specs.declared.chain.Chain.{Chain}

-- the last node of bucket k
abbrev pub bucket_back_at : List (Option NodePtr) → ℕ → Option NodePtr
bucket_back_at backs k = slice_index_or backs k None

-- the number of buckets
abbrev pub bucket_count : {T : Type 0} → Chain T → ℕ
bucket_count c = length c.bucket_backs.items

pub record IsChained {T : Type 0} (c : Chain T) : Type 0 where
  -- the list from the first node on
  pub forward : Forward (nexts c.nodes.cells) None
  pub front : c.front ≡ first_of (nexts c.nodes.cells) None
  -- the list from the last node back
  pub backward : Back None (prevs c.nodes.cells)
  pub back : c.back ≡ last_of None (prevs c.nodes.cells)
  -- the list of each bucket, from its last node back
  pub bucketed : (k : ℕ) → k < bucket_count c
      → Back None (bucket_prevs (bucket_count c) k c.nodes.cells)
  pub bucket_backs : (k : ℕ) → k < bucket_count c
      → bucket_back_at c.bucket_backs.items k
      ≡ last_of None (bucket_prevs (bucket_count c) k c.nodes.cells)
  -- there is one
  pub some : 0 < bucket_count c
