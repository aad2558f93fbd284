use Rattle.std.proofs.Common.{◌≡◌, ◌++◌, drop, is_none}
use Rattle.std.specs.List.{position, position_from, filter_map}
use Rattle.mp_rules.proofs.map.referenced_outputs.Given as goal

-- the outputs so far and those of the remaining references are all, and none before the index is missing
abbrev pub invariant-loop-place : goal.invariant-loop-place
invariant-loop-place g l =
    (l.outputs.items ++ filter_map (g.U.Utxo.map l.utxo) (drop l.place l.references) ≡ filter_map (g.U.Utxo.map l.utxo) l.references)
    × (position_from (λ r. is_none (g.U.Utxo.map l.utxo r)) l.place (drop l.place l.references) ≡ position (λ r. is_none (g.U.Utxo.map l.utxo r)) l.references)
