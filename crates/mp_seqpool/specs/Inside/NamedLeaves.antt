-- Taking out transactions on which no others depend.
use Rattle.std.specs.Prelude.{◌≡◌, ◌≢◌, ℕ, List, map, All, AllPairs, IfSome}
use Rattle.std.specs.FinMap.{get}
use Rattle.mp_tx.specs.Transaction.{Transaction}
use Rattle.mp_tx.specs.Spelling.{id_of}
use Rattle.mp_utxo.specs.Overlay.{Overlay}
use Rattle.mp_utxo.specs.Leaf.{IsLeaf}
use Rattle.mp_rules.specs.Validity.{Chain}
use Rattle.mp_tickets.specs.Tickets.{IsRising, item_at}
use Rattle.mp_seqpool.specs.Keep.{transactions, tickets, named}
use Rattle.mp_seqpool.specs.Pool.{Pool}
use Rattle.mp_seqpool.specs.Prepared.{apart}
use Rattle.mp_seqpool.specs.Inside.Chained.{all_accepted}

-- the tickets of the transactions with these ids
abbrev pub tickets_named : List (List ℕ) → Pool → List ℕ
tickets_named ids p = tickets (named ids p.items)

-- the overlay has the items' transactions, and those with these tickets have no dependents
pub record HasLeaves (overlay : Overlay) (items : List (ℕ × Transaction)) (gone : List ℕ) : Type 0 where
  pub applied : overlay.applied ≡ transactions items
  pub under : overlay.items ≡ items
  pub chained : Chain all_accepted (get overlay.ledger.utxo) overlay.ledger.tick (transactions items)
  pub distinct : AllPairs (λ a b. a ≢ b) (map id_of (transactions items))
  pub rising : IsRising items
  pub leaves : All (λ n. IfSome (item_at items n) (IsLeaf (get overlay.ledger.utxo) (transactions items))) gone

-- new has the items' transactions except those with these tickets, and they are valid in order
pub record Lacks (old : Overlay) (items : List (ℕ × Transaction)) (gone : List ℕ) (new : Overlay) : Type 0 where
  pub base : new.ledger ≡ old.ledger
  pub applied : new.applied ≡ transactions (apart gone items)
  pub under : new.items ≡ apart gone items
  pub chained : Chain all_accepted (get old.ledger.utxo) old.ledger.tick (transactions (apart gone items))
