use Rattle.std.proofs.Common.{◌≡◌, ℕ, ◌<◌, true}
use Rattle.std.specs.FinMap.{get}
use Rattle.mp_utxo.specs.Apply.{own_ref}
use Rattle.mp_utxo.specs.Inside.Leaf.{is_new_unspent}
use Rattle.mp_utxo.proofs.leaf.has_new_unspent.Given as goal

-- this holds of the outputs before the index
abbrev pub invariant-loop-index : goal.invariant-loop-index
invariant-loop-index l = (k : ℕ) → k < l.index → is_new_unspent l.changes.entries (get l.ledger.utxo) (own_ref l.tx k) ≡ true
