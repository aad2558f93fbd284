-- Reading a pool's items. The items with a greater ticket are `after` of mp_tickets.
use Rattle.std.specs.Prelude.{ℕ, ◌-◌, nat_le, List, [], ◌∷◌, take, if◌then◌else◌}
use Rattle.mp_tx.specs.Transaction.{Transaction}
use Rattle.mp_tx.specs.Spelling.{size_of}
use Rattle.mp_tickets.specs.Tickets.{after}

-- the longest prefix of the items that fits into this many bytes
abbrev pub within : ℕ → List (ℕ × Transaction) → List (ℕ × Transaction)
within bytes [] = []
within bytes (i ∷ is) = if nat_le (size_of i.1) bytes then i ∷ within (bytes - size_of i.1) is else []

-- what a peer is offered: of the items after its cursor the first ones, up to a number of items and a number of bytes
abbrev pub offer : ℕ → ℕ → ℕ → List (ℕ × Transaction) → List (ℕ × Transaction)
offer cursor count bytes items = take count (within bytes (after items cursor))

-- the cursor after these items: the last ticket, or unchanged if there are none
abbrev pub moved : ℕ → List (ℕ × Transaction) → ℕ
moved cursor [] = cursor
moved cursor (i ∷ is) = moved i.0 is
