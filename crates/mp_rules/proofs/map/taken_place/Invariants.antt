use Rattle.std.proofs.Common.{◌≡◌, ◌-◌, length, is_some}
use Rattle.std.specs.List.{position, position_from, range_with_len}
use Rattle.mp_utxo.specs.Apply.{own_ref}
use Rattle.mp_rules.proofs.map.taken_place.Given as goal

-- none before the index is taken
abbrev pub invariant-loop-index : goal.invariant-loop-index
invariant-loop-index g l =
    position_from (λ k. is_some (g.U.Utxo.map l.utxo (own_ref l.tx k))) l.index (range_with_len l.index (length l.tx.outputs - l.index))
    ≡ position (λ k. is_some (g.U.Utxo.map l.utxo (own_ref l.tx k))) (range_with_len 0 (length l.tx.outputs))
