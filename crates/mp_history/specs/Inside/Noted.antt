-- What a book records of its histories, in proofs only.
use Rattle.std.specs.Prelude.{ℕ, ◌==◌, List, [], ◌∷◌, filter, flat_map}
use Rattle.mp_tx.specs.Ledger.{ledger_of}
use Rattle.mp_seqpool.specs.Pool.{Pool}
use Rattle.mp_seqpool.specs.SlowPool.{empty_pool}
use Rattle.mp_history.specs.Entry.{Entry}
use Rattle.mp_history.specs.Log.{Log}

-- Words have keys. The key of its head word identifies a history. Each right to append to it is a pen that no other has
pub record Noted : Type 0 where
  -- the key of the head word of its history
  pub root : ℕ
  -- the key of the pen that made it, which writes no more
  pub used : ℕ
  -- the key of the pen that makes the next
  pub next : ℕ
  -- the state with which its history opens, if it opens here
  pub opening : Pool
  -- none if the history opens here, and else one entry
  pub entries : List Entry

-- the default if there is no state
abbrev pub no_state : Pool
no_state = empty_pool 0 0 (ledger_of 0 0 0 [])

-- the notes of one history, in order
abbrev pub notes_of : ℕ → List Noted → List Noted
notes_of root notes = filter (λ n. n.root == root) notes

abbrev pub entries_of : List Noted → List Entry
entries_of notes = flat_map (λ n. n.entries) notes

-- the entries of one history
abbrev pub history : ℕ → List Noted → List Entry
history root notes = entries_of (notes_of root notes)

abbrev pub opening_of : List Noted → Pool
opening_of [] = no_state
opening_of (n ∷ ns) = n.opening

-- one history, as contracts see it
abbrev pub log_of : ℕ → List Noted → Log
log_of root notes = record { opening = opening_of (notes_of root notes); entries = history root notes }

-- the key of the pen that makes the next entry; r is that of the first
abbrev pub right_after : ℕ → List Noted → ℕ
right_after r [] = r
right_after r (n ∷ ns) = right_after n.next ns
