-- The references that a block touches.
use Rattle.std.specs.Prelude.{ℕ, List, map, ◌++◌}
use Rattle.std.specs.List.{flat_map, enumerate_from}
use Rattle.mp_tx.specs.declared.reference.OutRef.{OutRef}
use Rattle.mp_tx.specs.declared.output.Output.{Output}
use Rattle.mp_tx.specs.Transaction.{Transaction, spent_refs}
use Rattle.mp_utxo.specs.Apply.{own_ref}

-- the references of these outputs of the transaction, from its output k on
abbrev pub own_refs_from : Transaction → ℕ → List Output → List OutRef
own_refs_from t k outputs = map (λ p. own_ref t p.0) (enumerate_from k outputs)

abbrev pub own_refs : Transaction → List OutRef
own_refs t = own_refs_from t 0 t.outputs

-- what the transaction spends, and its own outputs
abbrev pub touched_by : Transaction → List OutRef
touched_by t = spent_refs t.inputs ++ own_refs t

abbrev pub touched_by_all : List Transaction → List OutRef
touched_by_all ts = flat_map touched_by ts
