-- What a pool stores in addition to the state that contracts see.
use Rattle.std.specs.Prelude.{◌≡◌, ◌≢◌, ◌≤◌, ◌^◌, map, sum_by, All, AllPairs}
use Rattle.mp_tx.specs.Spelling.{id_of, size_of}
use Rattle.mp_rules.specs.Checked.{WasValid}
use Rattle.mp_tickets.specs.Tickets.{IsRising}
use Rattle.mp_seqpool.specs.ValidatedTx.{ticketed}
use Rattle.mp_seqpool.specs.Keep.{transactions, tickets}
use Rattle.mp_seqpool.specs.declared.pool.SeqPool.TheInside.{Inside}
use Rattle.mp_seqpool.specs.Inside.Chained.{IsChained}
use Rattle.mp_seqpool.specs.Pool.{Pool, Holding}

abbrev pub state : Inside → Pool
state p = record {
  ledger = p.overlay.ledger;
  items = ticketed p.items;
  last = p.last;
  changes = p.changes;
  limit = p.config.limit;
  opening_ticket = p.config.last;
}

abbrev pub holding : Inside → Holding
holding p = record {
  pool = state p;
  room = p.overlay.room;
}

-- The stored values are right, and the tickets are in range.
pub record IsCounted (p : Inside) : Type 0 where
  -- exactly its transactions were applied to the ledger, in order
  pub applied : p.overlay.applied ≡ transactions (ticketed p.items)
  -- each is valid there after all before it, except for its signatures
  pub chained : IsChained (state p)
  -- with their tickets
  pub under : p.overlay.items ≡ ticketed p.items
  -- no id occurs twice
  pub distinct : AllPairs (λ a b. a ≢ b) (map id_of (transactions (ticketed p.items)))
  -- each was valid when it named the outputs that are stored with it
  pub valid : All (λ e. WasValid e.1.tx e.1.resolved) p.items
  -- the number of bytes is that of all its transactions
  pub bytes : p.bytes ≡ sum_by size_of (transactions (ticketed p.items))
  -- no pool has more
  pub most : p.bytes ≤ 2 ^ 40
  -- the number of changes is at most the limit
  pub changes : p.changes ≤ p.config.limit
  -- tickets are strictly increasing, and none is 0
  pub rising : IsRising p.items
  -- no ticket is greater than the last one
  pub given : All (λ k. k ≤ p.last) (tickets (ticketed p.items))
