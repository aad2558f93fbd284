use Rattle.std.proofs.Common.{◌≡◌, ◌++◌, drop, is_none}
use Rattle.std.specs.List.{position, position_from, filter_map}
use Rattle.mp_tx.specs.Transaction.{spent_refs}
use Rattle.mp_rules.proofs.map.spent_outputs.Given as goal

-- the outputs so far and those of the remaining inputs are all, and none before the index is missing
abbrev pub invariant-loop-place : goal.invariant-loop-place
invariant-loop-place g l =
    (l.outputs.items ++ filter_map (g.U.Utxo.map l.utxo) (spent_refs (drop l.place l.inputs)) ≡ filter_map (g.U.Utxo.map l.utxo) (spent_refs l.inputs))
    × (position_from (λ i. is_none (g.U.Utxo.map l.utxo i.from)) l.place (drop l.place l.inputs) ≡ position (λ i. is_none (g.U.Utxo.map l.utxo i.from)) l.inputs)
