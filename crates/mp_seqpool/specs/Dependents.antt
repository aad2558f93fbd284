-- What a remove drops in addition to what is named, by dependents alone.
use Rattle.std.specs.Prelude.{◌≡◌, ℕ, nat_eq, Bool, ◌||◌, List, [], ◌∷◌, map, All, None, if◌then◌else◌}
use Rattle.std.specs.List.{list_any}
use Rattle.std.specs.Cmp.Lexicographic.{pointwise}
use Rattle.std.specs.FinMap.{get}
use Rattle.mp_tx.specs.declared.reference.OutRef.{OutRef}
use Rattle.mp_tx.specs.Transaction.{Transaction}
use Rattle.mp_tx.specs.Spelling.{id_of}
use Rattle.mp_rules.specs.Verifier.{Accepts}
use Rattle.mp_seqpool.specs.Keep.{transactions, named, unnamed, dropped}
use Rattle.mp_seqpool.specs.Pool.{Pool}
use Rattle.mp_seqpool.specs.SlowPool.{left_without}

-- whether the id is one of these
abbrev pub is_among : List (List ℕ) → List ℕ → Bool
is_among ids id = list_any (λ other. pointwise nat_eq id other) ids

-- whether the transaction spends or reads an output at one of these ids
abbrev pub hangs_on : List (List ℕ) → Transaction → Bool
hangs_on ids t =
    list_any (λ i. is_among ids i.from.id) t.inputs || list_any (λ r. is_among ids r.id) t.references

-- In order, the items that depend on none that goes. First those with these ids go, and then also what depends on one
-- that goes.
abbrev pub left_of : List (List ℕ) → List (ℕ × Transaction) → List (ℕ × Transaction)
left_of gone [] = []
left_of gone (i ∷ is) =
    if hangs_on gone i.1 then left_of (id_of i.1 ∷ gone) is else i ∷ left_of gone is

-- the tickets of the others
abbrev pub dependents_of : List (List ℕ) → List (ℕ × Transaction) → List ℕ
dependents_of gone [] = []
dependents_of gone (i ∷ is) =
    if hangs_on gone i.1 then i.0 ∷ dependents_of (id_of i.1 ∷ gone) is else dependents_of gone is

-- those of these ids that the items have
abbrev pub ids_named : List (List ℕ) → List (ℕ × Transaction) → List (List ℕ)
ids_named ids items = map id_of (transactions (named ids items))

-- the ledger state has no output at the id of a transaction of the pool
abbrev pub IsApart : Pool → Type 0
IsApart p =
    All (λ t. (r : OutRef) → r.id ≡ id_of t → get p.ledger.utxo r ≡ None) (transactions p.items)

-- The transactions with these ids are taken out.
pub record DropsDependents (accepts : Accepts) (p : Pool) (ids : List (List ℕ)) : Type 0 where
  -- of the others, those stay that depend on none that goes
  pub left : left_without accepts ids p ≡ left_of (ids_named ids p.items) (unnamed ids p.items)
  -- and the rest is dropped
  pub dropped :
      dropped accepts p.ledger (unnamed ids p.items)
      ≡ dependents_of (ids_named ids p.items) (unnamed ids p.items)
