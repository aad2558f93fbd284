-- What a transaction finds in the outputs that can be spent.
use Rattle.std.specs.Prelude.{◌≡◌, ℕ, List, map, Option, None, Some}
use Rattle.mp_tx.specs.declared.output.Output.{Output}
use Rattle.mp_tx.specs.Transaction.{Transaction}
use Rattle.mp_utxo.specs.Apply.{Unspent}
use Rattle.mp_rules.specs.Resolved.{Resolved}
use Rattle.mp_rules.specs.FirstFault.{outside_interval, output_taken}

-- each leads to the output at its index
abbrev pub LeadTo : {X : Type 0} → (X → Option Output) → List X → List Output → Type 0
LeadTo found xs outputs = map found xs ≡ map Some outputs

-- the tick is in its interval, it names exactly these outputs, and none of its own is there
pub record IsUnmoved (u : Unspent) (tick : ℕ) (t : Transaction) (r : Resolved) : Type 0 where
  pub interval : outside_interval tick t ≡ None
  pub inputs : LeadTo (λ i. u i.from) t.inputs r.spent
  pub references : LeadTo u t.references r.referenced
  pub fresh : output_taken u t ≡ None
