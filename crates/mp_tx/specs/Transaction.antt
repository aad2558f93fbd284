-- Transactions and their parts (the EUTXO and native-token papers of Chakravarty et al., and CIP-31).
use Rattle.std.specs.Prelude.{ℕ, Bool, not, List, map}
use Rattle.std.specs.List.{list_all, list_any}
use Rattle.std.specs.Ordering.{nat_cmp, ordering_then}
use Rattle.std.specs.Cmp.Lexicographic.{slice_cmp}
use Rattle.std.specs.declared.cmp.Ordering.{Ordering}
use Rattle.mp_bundle.specs.Bundle.{TokenEntry}
use Rattle.mp_tx.specs.declared.reference.OutRef.{OutRef}
use Rattle.mp_tx.specs.declared.input.Input.{Input}
use Rattle.mp_tx.specs.declared.output.Output.{Output}
use Rattle.mp_tx.specs.declared.signature.Signature.{Signature}
use Rattle.mp_tx.specs.Reference.{same_ref}

pub record Transaction : Type 0 where
  -- what it spends, in strictly increasing order
  pub inputs : List Input
  -- the outputs that it reads and doesn't spend, in strictly increasing order
  pub references : List OutRef
  -- what it pays
  pub outputs : List Output
  -- the first and the last tick of its validity interval
  pub from : ℕ
  pub to : ℕ
  -- what it forges; a negative quantity burns
  pub forge : List TokenEntry
  -- the bytes of the policy scripts that it carries, in strictly increasing order
  pub scripts : List (List ℕ)
  -- its signatures, in strictly increasing order
  pub signatures : List Signature

-- what the inputs spend
abbrev pub spent_refs : List Input → List OutRef
spent_refs inputs = map (λ i. i.from) inputs

-- by their bytes
abbrev pub script_cmp : List ℕ → List ℕ → Ordering
script_cmp a b = slice_cmp nat_cmp a b

-- by the key, and then by the signature itself
abbrev pub signature_cmp : Signature → Signature → Ordering
signature_cmp a b = ordering_then (slice_cmp nat_cmp a.key b.key) (slice_cmp nat_cmp a.sig b.sig)

-- whether an input spends the output
abbrev pub spends : List Input → OutRef → Bool
spends inputs r = list_any (λ i. same_ref r i.from) inputs

-- whether the inputs spend none of these outputs
abbrev pub spends_none : List Input → List OutRef → Bool
spends_none inputs refs = list_all (λ r. not (spends inputs r)) refs
