use Rattle.std.proofs.Common.{take}
use Rattle.mp_rules.specs.Inside.Unmoved.{LeadTo}
use Rattle.mp_rules.proofs.unmoved.refers_just.Given as goal

-- those before the index lead to the outputs before it
abbrev pub invariant-loop-place : goal.invariant-loop-place
invariant-loop-place g l = LeadTo (g.U.Utxo.map l.utxo) (take l.place l.references) (take l.place l.outputs)
