use Rattle.std.proofs.Common.{take}
use Rattle.mp_rules.specs.Inside.Unmoved.{LeadTo}
use Rattle.mp_rules.proofs.unmoved.spends_just.Given as goal

-- those before the index lead to the outputs before it
abbrev pub invariant-loop-place : goal.invariant-loop-place
invariant-loop-place g l = LeadTo (λ i. g.U.Utxo.map l.utxo i.from) (take l.place l.inputs) (take l.place l.outputs)
