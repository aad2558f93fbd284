-- What a version stores.
use Rattle.std.specs.Prelude.{◌≡◌, ℕ, ◌≤◌, ◌^◌, List, length, All}
use Rattle.mp_tx.specs.Transaction.{Transaction}
use Rattle.mp_tickets.specs.Tickets.{IsRising}
use Rattle.mp_seqpool.specs.Keep.{tickets, bytes_of}
use Rattle.mp_seqpool.specs.Pool.{Pool}
use Rattle.mp_versions.specs.declared.version.Version.TheInside.{Inside}
use Rattle.mp_versions.specs.declared.version.Rest.{Rest}
use Rattle.mp_versions.specs.Version.{Version}
use Rattle.mp_versions.specs.Layout.{items_in, chunks_in, IsLaid}

abbrev pub state : Inside → Pool
state v = record {
  ledger = v.ledger;
  items = items_in v.layout;
  last = v.last;
  changes = v.changes;
  limit = v.config.limit;
  opening_ticket = v.config.last;
}

abbrev pub version : Inside → Version
version v = record { pool = state v; chunks = chunks_in v.layout }

-- The stored figures are right, and the layout of the items is allowed.
pub record IsCounted (v : Inside) : Type 0 where
  pub laid : IsLaid v.layout
  -- tickets are strictly increasing, and none is 0
  pub rising : IsRising (items_in v.layout)
  -- no ticket is above the last one
  pub given : All (λ k. k ≤ v.last) (tickets (items_in v.layout))
  pub count : v.count ≡ length (items_in v.layout)
  -- the total bytes of all its transactions
  pub bytes : v.bytes ≡ bytes_of (items_in v.layout)
  -- no pool can hold more bytes
  pub most : v.bytes ≤ 2 ^ 40
  -- the changes made, within the limit
  pub changes : v.changes ≤ v.config.limit

-- what is left of these items
pub record IsRestOf (items : List (ℕ × Transaction)) (r : Rest) : Type 0 where
  pub all : items_in r.layout ≡ items
  pub laid : IsLaid r.layout
  pub bytes : r.bytes ≡ bytes_of items
