-- The results of checking a transaction's signatures and scripts before the other rules.
use Rattle.std.specs.Prelude.{◌≡◌, ℕ, List, [], ◌∷◌, length, take, drop, Option, None}
use Rattle.mp_tx.specs.declared.output.Output.{Output}
use Rattle.mp_tx.specs.Transaction.{Transaction}
use Rattle.mp_utxo.specs.Apply.{Unspent}
use Rattle.mp_rules.specs.declared.invalid.Invalid.{Invalid}
use Rattle.mp_rules.specs.Verifier.{Accepts}
use Rattle.mp_rules.specs.Resolved.{Resolved, resolve}
use Rattle.mp_rules.specs.FirstFault.{bad_signature, validator_refused, policy_refused, first_of, first_fault}

pub record Checked : Type 0 where
  -- the outputs on which the scripts ran
  pub resolved : Resolved
  -- the fault of the first signature that isn't accepted
  pub signature : Option Invalid
  -- the fault of the first script that refuses
  pub script : Option Invalid

-- the first script that refuses on these outputs; validators come first
unfoldable pub script_refused : Transaction → Resolved → Option Invalid
script_refused t r = first_of (validator_refused t r ∷ policy_refused t r ∷ [])

-- the verifier accepts all signatures
abbrev pub IsSigned : Accepts → Transaction → Type 0
IsSigned accepts t = bad_signature accepts t ≡ None

-- all scripts accept on these outputs
abbrev pub ScriptsAccept : Transaction → Resolved → Type 0
ScriptsAccept t r = script_refused t r ≡ None

-- some verifier accepted its signatures, and it was valid on some outputs, and named these
pub record WasValid (t : Transaction) (r : Resolved) : Type 0 where
  pub accepts : Accepts
  pub there : Unspent
  pub tick : ℕ
  pub named : r ≡ resolve there t
  pub clear : first_fault accepts there tick t ≡ None

-- it belongs to this transaction, with its signatures, and to this verifier
pub record IsChecked (accepts : Accepts) (t : Transaction) (c : Checked) : Type 0 where
  pub signature : c.signature ≡ bad_signature accepts t
  pub script : c.script ≡ script_refused t c.resolved

-- the scripts ran on these outputs: one for each input, then one for each reference
pub record IsUpon (t : Transaction) (outputs : List Output) (c : Checked) : Type 0 where
  pub spent : c.resolved.spent ≡ take (length t.inputs) outputs
  pub referenced : c.resolved.referenced ≡ drop (length t.inputs) outputs

-- its first fault
abbrev pub first_found : Checked → Option Invalid
first_found c = first_of (c.signature ∷ c.script ∷ [])
