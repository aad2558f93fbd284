-- The outputs of a ledger state, one by one.
use Rattle.std.specs.Prelude.{◌++◌, List, [], ◌∷◌, Option, None, Some, if◌then◌else◌}
use Rattle.std.specs.List.{list_any}
use Rattle.mp_tx.specs.declared.reference.OutRef.{OutRef}
use Rattle.mp_tx.specs.declared.output.Output.{Output}
use Rattle.mp_tx.specs.Reference.{same_ref}
use Rattle.mp_names.specs.declared.payment.Payment.{Payment}
use Rattle.mp_names.specs.Payments.{output_of}

-- an output that exists and that no earlier word named
abbrev pub with_output : List (OutRef × Output) → Option OutRef → Option Payment → Option (List (OutRef × Output))
with_output outputs (Some r) (Some p) = if list_any (λ o. same_ref r o.0) outputs then None else Some (outputs ++ (r, output_of p) ∷ [])
with_output outputs (Some r) None = None
with_output outputs None p = None
