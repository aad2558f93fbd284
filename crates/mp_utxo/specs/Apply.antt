-- The effect of transactions on the outputs that can be spent (the EUTXO model of Chakravarty et al.).
use Rattle.std.specs.Prelude.{ℕ, nat_eq, List, [], ◌∷◌, Option, None, slice_get, if◌then◌else◌}
use Rattle.std.specs.Option.{option_or}
use Rattle.std.specs.Cmp.Lexicographic.{pointwise}
use Rattle.mp_tx.specs.declared.reference.OutRef.{OutRef}
use Rattle.mp_tx.specs.declared.output.Output.{Output}
use Rattle.mp_tx.specs.Transaction.{Transaction, spends}
use Rattle.mp_tx.specs.Spelling.{id_of}

-- the outputs that can be spent, by their references
abbrev pub Unspent : Type 0
Unspent = OutRef → Option Output

-- the reference of the transaction's own output k
abbrev pub own_ref : Transaction → ℕ → OutRef
own_ref t k = record { id = id_of t; index = k }

-- the output that the transaction makes at a reference: output k is at its id and k
abbrev pub output_made : Transaction → OutRef → Option Output
output_made t r = if pointwise nat_eq r.id (id_of t) then slice_get t.outputs r.index else None

-- without the outputs that the transaction spends, and with those that it makes
abbrev pub apply : Transaction → Unspent → Unspent
apply t u r = option_or (output_made t r) (if spends t.inputs r then None else u r)

-- after all of the transactions, in order
abbrev pub after : Unspent → List Transaction → Unspent
after u [] = u
after u (t ∷ ts) = after (apply t u) ts
