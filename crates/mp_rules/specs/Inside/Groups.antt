-- The rules in groups, as the code checks them.
use Rattle.std.specs.Prelude.{◌≡◌, ◌≢◌, ℕ, List, [], ◌∷◌, Option, None, Some, Result, Ok, Err}
use Rattle.mp_tx.specs.Transaction.{Transaction}
use Rattle.mp_utxo.specs.Apply.{Unspent}
use Rattle.mp_rules.specs.declared.invalid.Invalid.{Invalid}
use Rattle.mp_rules.specs.declared.invalid.Invalid.TheVariants as rule
use Rattle.mp_rules.specs.Resolved.{Resolved, resolve}
use Rattle.mp_rules.specs.FirstFault.{no_inputs, outside_interval, negative_output, input_missing, reference_missing, address_mismatch, datum_mismatch, output_taken, forge_without_policy, unbalanced, first_of}

-- those without a map
abbrev pub own_faults : ℕ → Transaction → List (Option Invalid)
own_faults tick t = no_inputs t ∷ outside_interval tick t ∷ negative_output t ∷ []

-- whether what it names is there
abbrev pub missing_faults : Unspent → Transaction → List (Option Invalid)
missing_faults u t = input_missing u t ∷ reference_missing u t ∷ []

-- whether its inputs match what they spend
abbrev pub mismatch_faults : Transaction → Resolved → List (Option Invalid)
mismatch_faults t r = address_mismatch t r ∷ datum_mismatch t r ∷ []

-- what it makes and pays
abbrev pub payment_faults : Unspent → Transaction → Resolved → List (Option Invalid)
payment_faults u t r = output_taken u t ∷ forge_without_policy t ∷ unbalanced t r ∷ []

unfoldable pub own_fault : ℕ → Transaction → Option Invalid
own_fault tick t = first_of (own_faults tick t)

unfoldable pub missing : Unspent → Transaction → Option Invalid
missing u t = first_of (missing_faults u t)

unfoldable pub mismatch : Transaction → Resolved → Option Invalid
mismatch t r = first_of (mismatch_faults t r)

unfoldable pub payment_fault : Unspent → Transaction → Resolved → Option Invalid
payment_fault u t r = first_of (payment_faults u t r)

-- all that need neither signatures nor scripts
unfoldable pub fault_on_map : Unspent → ℕ → Transaction → Option Invalid
fault_on_map u tick t =
    first_of (own_fault tick t ∷ missing u t ∷ mismatch t (resolve u t) ∷ payment_fault u t (resolve u t) ∷ [])

-- A group passes: the value is as required, and the group has no fault. Else its first fault is returned, or an
-- allocation failure.
abbrev pub Passes : {A : Type 0} → (A → Type 0) → Option Invalid → Result A Invalid → Type 0
Passes Is fault (Ok x) = Is x × (fault ≡ None)
Passes Is fault (Err e) = e ≢ rule.NoMemory → fault ≡ Some e
