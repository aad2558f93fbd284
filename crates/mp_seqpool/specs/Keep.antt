-- Keeping the transactions that are still valid.
use Rattle.std.specs.Prelude.{ℕ, nat_eq, Bool, not, List, [], ◌∷◌, map, sum_by, is_none, if◌then◌else◌}
use Rattle.std.specs.List.{filter, list_any}
use Rattle.std.specs.Cmp.Lexicographic.{pointwise}
use Rattle.std.specs.FinMap.{get}
use Rattle.mp_tx.specs.Transaction.{Transaction}
use Rattle.mp_tx.specs.Spelling.{id_of, size_of}
use Rattle.mp_tx.specs.Ledger.{LedgerState}
use Rattle.mp_utxo.specs.Apply.{Unspent, apply}
use Rattle.mp_rules.specs.Verifier.{Accepts}
use Rattle.mp_rules.specs.FirstFault.{first_fault}

abbrev pub transactions : List (ℕ × Transaction) → List Transaction
transactions items = map (λ i. i.1) items

abbrev pub tickets : List (ℕ × Transaction) → List ℕ
tickets items = map (λ i. i.0) items

-- the total number of their bytes
abbrev pub bytes_of : List (ℕ × Transaction) → ℕ
bytes_of items = sum_by size_of (transactions items)

-- whether the transaction's id is one of these
abbrev pub is_named : List (List ℕ) → Transaction → Bool
is_named ids t = list_any (λ id. pointwise nat_eq (id_of t) id) ids

-- the items with these ids
abbrev pub named : List (List ℕ) → List (ℕ × Transaction) → List (ℕ × Transaction)
named ids items = filter (λ i. is_named ids i.1) items

-- the items with other ids
abbrev pub unnamed : List (List ℕ) → List (ℕ × Transaction) → List (ℕ × Transaction)
unnamed ids items = filter (λ i. not (is_named ids i.1)) items

-- The verifier decides which signatures are good.
module _ (accepts : Accepts) where
  -- whether all rules hold
  abbrev pub is_valid : Unspent → ℕ → Transaction → Bool
  is_valid u tick t = is_none (first_fault accepts u tick t)

  -- in order, each item that is valid after those kept before it
  abbrev pub keep_upon : Unspent → ℕ → List (ℕ × Transaction) → List (ℕ × Transaction)
  keep_upon u tick [] = []
  keep_upon u tick (i ∷ is) =
      if is_valid u tick i.1 then i ∷ keep_upon (apply i.1 u) tick is else keep_upon u tick is

  -- the tickets of the others
  abbrev pub dropped_upon : Unspent → ℕ → List (ℕ × Transaction) → List ℕ
  dropped_upon u tick [] = []
  dropped_upon u tick (i ∷ is) =
      if is_valid u tick i.1 then dropped_upon (apply i.1 u) tick is else i.0 ∷ dropped_upon u tick is

  -- on a ledger state
  abbrev pub keep : LedgerState → List (ℕ × Transaction) → List (ℕ × Transaction)
  keep ledger items = keep_upon (get ledger.utxo) ledger.tick items

  abbrev pub dropped : LedgerState → List (ℕ × Transaction) → List ℕ
  dropped ledger items = dropped_upon (get ledger.utxo) ledger.tick items
