-- Which items stay on another ledger state, as far as the outputs that they name decide it.
use Rattle.std.specs.Prelude.{◌≡◌, ℕ, nat_le, Bool, true, false, ◌&&◌, ◌||◌, not, List, All, None, is_some, is_none, IsTrue}
use Rattle.std.specs.List.{filter, list_any}
use Rattle.std.specs.FinMap.{get}
use Rattle.mp_tx.specs.declared.reference.OutRef.{OutRef}
use Rattle.mp_tx.specs.Transaction.{Transaction}
use Rattle.mp_tx.specs.Ledger.{LedgerState}
use Rattle.mp_utxo.specs.Apply.{Unspent}
use Rattle.mp_utxo.specs.Leaf.{IsLeaf}
use Rattle.mp_rules.specs.FirstFault.{output_taken}
use Rattle.mp_seqpool.specs.declared.parting.Parted.{Parted}
use Rattle.mp_seqpool.specs.Keep.{tickets}

-- whether its interval has the tick
abbrev pub is_timely : ℕ → Transaction → Bool
is_timely tick t = nat_le t.from tick && nat_le tick t.to

-- whether the reference leads to an output in the old map and to none in the new one
abbrev pub is_spent_since : Unspent → Unspent → OutRef → Bool
is_spent_since old new r = is_some (old r) && is_none (new r)

-- whether its interval doesn't have the new tick, or an output that it spends has been spent since
abbrev pub is_lost : LedgerState → LedgerState → Transaction → Bool
is_lost old new t =
    not (is_timely new.tick t) || list_any (λ i. is_spent_since (get old.utxo) (get new.utxo) i.from) t.inputs

-- its interval has the new tick, its names lead to the same outputs in both, and none of its own outputs is in the new
-- one
pub record IsUntouched (old new : LedgerState) (t : Transaction) : Type 0 where
  pub timely : IsTrue (is_timely new.tick t)
  pub inputs : All (λ i. get old.utxo i.from ≡ get new.utxo i.from) t.inputs
  pub references : All (λ r. get old.utxo r ≡ get new.utxo r) t.references
  pub fresh : output_taken (get new.utxo) t ≡ None

-- The lost items have no dependents among the transactions on the old ledger state, and the others are untouched.
pub record IsParted (old : LedgerState) (ts : List Transaction) (new : LedgerState) (items : List (ℕ × Transaction)) (p : Parted)
    : Type 0 where
  pub kept : p.kept ≡ tickets (filter (λ i. not (is_lost old new i.1)) items)
  pub dropped : p.dropped ≡ tickets (filter (λ i. is_lost old new i.1) items)
  pub untouched : All (λ i. is_lost old new i.1 ≡ false → IsUntouched old new i.1) items
  pub leaves : All (λ i. is_lost old new i.1 ≡ true → IsLeaf (get old.utxo) ts i.1) items
