use Rattle.std.proofs.Common.{ℕ, ◌<◌}
use Rattle.std.specs.FinMap.{get}
use Rattle.mp_utxo.specs.Apply.{own_ref}
use Rattle.mp_utxo.specs.Inside.Leaf.{IsNewEnd}
use Rattle.mp_utxo.proofs.leaf.has_new_ends.Given as goal

-- this holds of the outputs before the index
abbrev pub invariant-loop-index : goal.invariant-loop-index
invariant-loop-index l = (k : ℕ) → k < l.index → IsNewEnd l.changes.entries (get l.ledger.utxo) l.applied l.gone (own_ref l.tx k)
