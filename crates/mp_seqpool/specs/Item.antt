-- An item without the share of its transaction.
use Rattle.std.specs.Prelude.{ℕ, List, map}
use Rattle.std.specs.Arc.{arc_value}
use Rattle.std.specs.Borrow.{Bor}
use Rattle.mp_tx.specs.Transaction.{Transaction}
use Rattle.mp_seqpool.specs.declared.item.Item.{Item}

abbrev pub item_of : Item → ℕ × Transaction
item_of i = (i.ticket, arc_value i.tx)

abbrev pub items_of : List Item → List (ℕ × Transaction)
items_of items = map item_of items

-- what contracts see of a `&` to an item
abbrev pub shown : Bor Item → ℕ × Transaction
shown i = item_of i.now
