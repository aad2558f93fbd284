-- Taking out transactions with all that depend on them.
use Rattle.std.specs.Prelude.{◌≡◌, ◌≢◌, ◌⊎◌, ℕ, not, List, map, All, AllPairs, Any, IsSomeAnd, true}
use Rattle.std.specs.List.{filter}
use Rattle.std.specs.List.Sorted.{IsStrictlyIncreasing}
use Rattle.std.specs.FinMap.{get}
use Rattle.mp_tx.specs.declared.reference.OutRef.{OutRef}
use Rattle.mp_tx.specs.Transaction.{Transaction}
use Rattle.mp_tx.specs.Spelling.{id_of}
use Rattle.mp_utxo.specs.Overlay.{Overlay}
use Rattle.mp_utxo.specs.Leaf.{IsMadeBy, HasDependentsAmong}
use Rattle.mp_rules.specs.Validity.{Chain}
use Rattle.mp_tickets.specs.Tickets.{IsRising, has_ticket, item_at}
use Rattle.mp_seqpool.specs.Keep.{transactions, named}
use Rattle.mp_seqpool.specs.declared.command.Reply.TheVariants.{Removed}
use Rattle.mp_seqpool.specs.Command.{Remove}
use Rattle.mp_seqpool.specs.Pool.{Pool}
use Rattle.mp_seqpool.specs.Prepared.{Prepared, TakeOut, GoInTurn}
use Rattle.mp_seqpool.specs.Inside.Chained.{all_accepted}
use Rattle.mp_seqpool.specs.Inside.NamedLeaves.{tickets_named}

-- the pool has a transaction with the ticket, and all its dependents are among those with these tickets
abbrev pub EndsAt : Pool → List ℕ → ℕ → Type 0
EndsAt p gone n =
    IsSomeAnd (item_at p.items n) (HasDependentsAmong (get p.ledger.utxo) (transactions p.items) p.items gone)

-- a transaction with one of these tickets makes an output at the reference
pub record IsMadeAmong (items : List (ℕ × Transaction)) (gone : List ℕ) (r : OutRef) : Type 0 where
  pub ticket : ℕ
  pub among : has_ticket gone ticket ≡ true
  pub by : IsMadeBy items r ticket

-- it spends or reads what one of those makes
abbrev pub DependsOn : List (ℕ × Transaction) → List ℕ → Transaction → Type 0
DependsOn items gone t =
    Any (λ i. IsMadeAmong items gone i.from) t.inputs ⊎ Any (IsMadeAmong items gone) t.references

abbrev pub DependsAt : Pool → List ℕ → ℕ → Type 0
DependsAt p gone n = IsSomeAnd (item_at p.items n) (DependsOn p.items gone)

-- those with these tickets are the named ones, and all that depend on one of those that go
pub record AreFollowed (p : Pool) (named gone : List ℕ) : Type 0 where
  pub rise : IsStrictlyIncreasing gone
  pub has_named : All (λ n. has_ticket gone n ≡ true) named
  pub ended : All (EndsAt p gone) gone
  pub depends : All (λ n. (has_ticket named n ≡ true) ⊎ DependsAt p gone n) gone

-- of these tickets, those that aren't among the others
abbrev pub beyond : List ℕ → List ℕ → List ℕ
beyond named gone = filter (λ n. not (has_ticket named n)) gone

-- the step of a remove that takes out these
pub record TakesFollowed (p : Pool) (ids : List (List ℕ)) (q : Prepared) : Type 0 where
  pub gone : List ℕ
  pub are : AreFollowed p (tickets_named ids p) gone
  pub command : q.command ≡ Remove ids
  pub reply : q.reply ≡ Removed (tickets_named ids p) (beyond (tickets_named ids p) gone)
  pub effect : q.effect ≡ TakeOut gone

-- the overlay has the items' transactions, and those with these tickets can go
pub record HasInTurn (overlay : Overlay) (items : List (ℕ × Transaction)) (gone : List ℕ) : Type 0 where
  pub applied : overlay.applied ≡ transactions items
  pub under : overlay.items ≡ items
  pub chained : Chain all_accepted (get overlay.ledger.utxo) overlay.ledger.tick (transactions items)
  pub distinct : AllPairs (λ a b. a ≢ b) (map id_of (transactions items))
  pub rising : IsRising items
  pub turn : GoInTurn overlay.ledger items gone
