-- A ticket list: items with strictly increasing tickets.
use Rattle.std.specs.Prelude.{ℕ, ◌<◌, nat_lt, Bool, not, ◌==◌, List, [], ◌∷◌, Option}
use Rattle.std.specs.List.{filter, list_any}
use Rattle.std.specs.Map.{lookup}
use Rattle.std.specs.Borrow.{Bor}

-- whether the ticket is one of these
abbrev pub has_ticket : List ℕ → ℕ → Bool
has_ticket tickets ticket = list_any (λ t. t == ticket) tickets

module _ {T : Type 0} where
  -- each ticket is greater than the one before it, and the first is greater than low
  abbrev pub IsRisingFrom : ℕ → List (ℕ × T) → Type 0
  IsRisingFrom low [] = Unit {0}
  IsRisingFrom low (e ∷ es) = (low < e.0) × IsRisingFrom e.0 es

  -- the tickets are strictly increasing, and greater than 0
  abbrev pub IsRising : List (ℕ × T) → Type 0
  IsRising = IsRisingFrom 0

  -- the item of the ticket
  abbrev pub item_at : List (ℕ × T) → ℕ → Option T
  item_at list ticket = lookup (λ t. t == ticket) list

  -- the list without that item
  abbrev pub without : List (ℕ × T) → ℕ → List (ℕ × T)
  without list ticket = filter (λ e. not (e.0 == ticket)) list

  -- the part of the list with greater tickets
  abbrev pub after : List (ℕ × T) → ℕ → List (ℕ × T)
  after list ticket = filter (λ e. nat_lt ticket e.0) list

  -- what a ticket and a `&` to its item show
  abbrev pub shown : ℕ × Bor T → ℕ × T
  shown e = (e.0, e.1.now)

  -- the part of the list with these tickets
  abbrev pub among : List ℕ → List (ℕ × T) → List (ℕ × T)
  among tickets list = filter (λ e. has_ticket tickets e.0) list
