-- Inputs, references, outputs, policy scripts and signatures: what is read has this spelling, and what has this
-- spelling is read.
use Rattle.std.proofs.Common.{◌≡◌, ℕ, true, List, [], ◌∷◌, ◌++◌, Option, Some, refl, ap, subst, ◌∙◌, append_assoc}
use Rattle.std.specs.Prelude.{not}
use Rattle.std.specs.List.{AllByRecursion}
use Rattle.std.specs.Cmp.{first_so, second_so}
use Rattle.std.specs.Cmp.Derive.{both_true}
use Rattle.mp_bytes.specs.Spelling.{sized}
use Rattle.mp_bytes.specs.Fields.{run_at}
use Rattle.mp_bytes.proofs.Bytes.{Takes, Takes-then, bind_ok, ok_is, or_fault_ok}
use Rattle.mp_bytes.proofs.FieldLaws.{run_takes}
use Rattle.mp_script.specs.Script.{IsScript}
use Rattle.mp_tx.specs.declared.fault.TxFault.TheVariants.{Truncated, NotRising, ReferenceSpent}
use Rattle.mp_tx.specs.declared.reference.OutRef.{OutRef}
use Rattle.mp_tx.specs.declared.input.Input.{Input}
use Rattle.mp_tx.specs.declared.output.Output.{Output}
use Rattle.mp_tx.specs.declared.signature.Signature.{Signature}
use Rattle.mp_tx.specs.Reference.{ref_cmp}
use Rattle.mp_tx.specs.Rising.{follows}
use Rattle.mp_tx.specs.Transaction.{script_cmp, signature_cmp, spends, spends_none}
use Rattle.mp_tx.specs.Spelling.{ref_bytes, input_bytes, output_bytes, signature_bytes, bundle_bytes}
use Rattle.mp_tx.specs.Parts.{IsRef, IsSized, IsInput, IsOutput, IsSignature}
use Rattle.mp_tx.specs.Reading.{field, require, itself, ref_read, script_read, data_read, bundle_read, input_read, reference_read, output_read, policy_read, signature_read}
use Rattle.mp_tx.proofs.Entries.{require_ok}
use Rattle.mp_tx.proofs.Each.{EachAfter, IsSound, IsComplete, Comes}
use Rattle.mp_tx.proofs.Fields.{array_again, ref_was, ref_again, script_was, script_again, data_was, data_again}
use Rattle.mp_tx.proofs.Bundles.{step, field_step, require_step, required, assoc3, assoc4, bundle_was, bundle_again}

-- ---- inputs

pub input_was : IsSound input_read input_bytes (Comes ref_cmp (λ i. i.from) IsInput)
unfolding input_read input_bytes
input_was before bytes x fits e =
    let from = bind_ok (ref_read bytes) _ x e in
    let f = ref_was bytes from.0 fits from.1 in
    let next = bind_ok (require (follows ref_cmp before from.0.0) NotRising from.0) _ x from.2 in
    let r = require_ok (follows ref_cmp before from.0.0) NotRising from.0 next.0 next.1 in
    let n = subst (λ (y : OutRef × List ℕ). (Takes bytes (ref_bytes y.0) y.1 × IsRef y.0) × (follows ref_cmp before y.0 ≡ true)) r.1 (f, r.0) in
    let validator = bind_ok (script_read next.0.1) _ x next.2 in
    let v = script_was next.0.1 validator.0 n.0.0.rest_fits validator.1 in
    let datum = bind_ok (data_read validator.0.1) _ x validator.2 in
    let d = data_was validator.0.1 datum.0 v.0.rest_fits datum.1 in
    let redeemer = bind_ok (data_read datum.0.1) _ x datum.2 in
    let g = data_was datum.0.1 redeemer.0 d.0.rest_fits redeemer.1 in
    subst (λ (y : Input × List ℕ). Takes bytes (input_bytes y.0) y.1 × Comes ref_cmp (λ i. i.from) IsInput before y.0) (ok_is _ x redeemer.2) (
      Takes-then bytes (ref_bytes next.0.0 ++ sized validator.0.0 ++ sized datum.0.0) datum.0.1 (sized redeemer.0.0) redeemer.0.1
          (Takes-then bytes (ref_bytes next.0.0 ++ sized validator.0.0) validator.0.1 (sized datum.0.0) datum.0.1
          (Takes-then bytes (ref_bytes next.0.0) next.0.1 (sized validator.0.0) validator.0.1 n.0.0 v.0) d.0) g.0,
      (n.1, record { from = n.0.1; validator = v.1; datum = d.1; redeemer = g.1 }),
    )

pub input_again : IsComplete input_read input_bytes (Comes ref_cmp (λ i. i.from) IsInput)
unfolding input_read input_bytes
input_again before i rest good =
    let t3 : List ℕ = sized i.redeemer ++ rest in
    let t2 : List ℕ = sized i.datum ++ (sized i.redeemer ++ rest) in
    let t1 : List ℕ = sized i.validator ++ (sized i.datum ++ (sized i.redeemer ++ rest)) in
    ap (λ (bytes : List ℕ). input_read before bytes) (assoc4 (ref_bytes i.from) (sized i.validator) (sized i.datum) (sized i.redeemer) rest)
    ∙ step (ref_read (ref_bytes i.from ++ t1)) _ (i.from, t1) _ (ref_again i.from t1 good.1.from)
    (require_step (follows ref_cmp before i.from) NotRising (i.from, t1) _ _ good.0
    (step (script_read t1) _ (i.validator, t2) _ (script_again i.validator t2 good.1.validator)
    (step (data_read t2) _ (i.datum, t3) _ (data_again i.datum t3 good.1.datum)
    (step (data_read t3) _ (i.redeemer, rest) _ (data_again i.redeemer rest good.1.redeemer) refl))))

-- ---- references

-- a reference that these inputs don't spend
abbrev pub IsLookedAt : List Input → OutRef → Type 0
IsLookedAt inputs r = (not (spends inputs r) ≡ true) × IsRef r

pub reference_was : (inputs : List Input) → IsSound (reference_read inputs) ref_bytes (Comes ref_cmp itself (IsLookedAt inputs))
unfolding reference_read
reference_was inputs before bytes x fits e =
    let r = bind_ok (ref_read bytes) _ x e in
    let f = ref_was bytes r.0 fits r.1 in
    let next = bind_ok (require (follows ref_cmp before r.0.0) NotRising r.0) _ x r.2 in
    let n = require_ok (follows ref_cmp before r.0.0) NotRising r.0 next.0 next.1 in
    let m = subst (λ (y : OutRef × List ℕ). (Takes bytes (ref_bytes y.0) y.1 × IsRef y.0) × (follows ref_cmp before y.0 ≡ true)) n.1 (f, n.0) in
    let u = require_ok (not (spends inputs next.0.0)) ReferenceSpent next.0 x next.2 in
    subst (λ (y : OutRef × List ℕ). Takes bytes (ref_bytes y.0) y.1 × Comes ref_cmp itself (IsLookedAt inputs) before y.0) u.1
    (m.0.0, (m.1, (u.0, m.0.1)))

pub reference_again : (inputs : List Input) → IsComplete (reference_read inputs) ref_bytes (Comes ref_cmp itself (IsLookedAt inputs))
unfolding reference_read
reference_again inputs before r rest good =
    step (ref_read (ref_bytes r ++ rest)) _ (r, rest) _ (ref_again r rest good.1.1)
    (require_step (follows ref_cmp before r) NotRising (r, rest) _ _ good.0
    (required (not (spends inputs r)) ReferenceSpent (r, rest) good.1.0))

pub none_spent : (inputs : List Input) (refs : List OutRef) → AllByRecursion (IsLookedAt inputs) refs → spends_none inputs refs ≡ true
none_spent inputs [] all = refl
none_spent inputs (r ∷ rs) all = both_true all.0.0 (none_spent inputs rs all.1)

pub are_refs : (inputs : List Input) (refs : List OutRef) → AllByRecursion (IsLookedAt inputs) refs → AllByRecursion IsRef refs
are_refs inputs [] all = tt
are_refs inputs (r ∷ rs) all = (all.0.1, are_refs inputs rs all.1)

pub are_looked_at : (inputs : List Input) (refs : List OutRef) → spends_none inputs refs ≡ true → AllByRecursion IsRef refs → AllByRecursion (IsLookedAt inputs) refs
are_looked_at inputs [] none all = tt
are_looked_at inputs (r ∷ rs) none all = ((first_so _ _ none, all.0), are_looked_at inputs rs (second_so _ _ none) all.1)

-- ---- outputs

abbrev pub IsAny : Option Output → Output → Type 0
IsAny before o = IsOutput o

pub output_was : IsSound output_read output_bytes IsAny
unfolding output_read output_bytes
output_was before bytes x fits e =
    let address = bind_ok (field (run_at 32 bytes)) _ x e in
    let a = run_takes 32 bytes address.0.0 address.0.1 fits (or_fault_ok Truncated _ address.0 address.1) in
    let hash = bind_ok (field (run_at 32 address.0.1)) _ x address.2 in
    let h = run_takes 32 address.0.1 hash.0.0 hash.0.1 a.0.rest_fits (or_fault_ok Truncated _ hash.0 hash.1) in
    let value = bind_ok (bundle_read hash.0.1) _ x hash.2 in
    let v = bundle_was hash.0.1 value.0 h.0.rest_fits value.1 in
    subst (λ (y : Output × List ℕ). Takes bytes (output_bytes y.0) y.1 × IsAny before y.0) (ok_is _ x value.2) (
      Takes-then bytes (address.0.0 ++ hash.0.0) hash.0.1 (bundle_bytes value.0.0) value.0.1 (Takes-then bytes address.0.0 address.0.1 hash.0.0 hash.0.1 a.0 h.0) v.0,
      record { address = a.1; datum_hash = h.1; value = v.1 },
    )

pub output_again : IsComplete output_read output_bytes IsAny
unfolding output_read output_bytes
output_again before o rest good =
    let t2 : List ℕ = bundle_bytes o.value ++ rest in
    let t1 : List ℕ = o.datum_hash ++ (bundle_bytes o.value ++ rest) in
    ap (λ (bytes : List ℕ). output_read before bytes) (assoc3 o.address o.datum_hash (bundle_bytes o.value) rest)
    ∙ field_step (run_at 32 (o.address ++ t1)) _ (o.address, t1) _ (array_again 32 o.address t1 good.address)
    (field_step (run_at 32 t1) _ (o.datum_hash, t2) _ (array_again 32 o.datum_hash t2 good.datum_hash)
    (step (bundle_read t2) _ (o.value, rest) _ (bundle_again o.value rest good.value) refl))

pub each_output : (before : Option Output) (os : List Output) → EachAfter itself IsAny before os → AllByRecursion IsOutput os
each_output before [] each = tt
each_output before (o ∷ os) each = (each.0, each_output (Some o) os each.1)

pub any_output : (before : Option Output) (os : List Output) → AllByRecursion IsOutput os → EachAfter itself IsAny before os
any_output before [] all = tt
any_output before (o ∷ os) all = (all.0, any_output (Some o) os all.1)

-- ---- policy scripts

pub policy_was : IsSound policy_read sized (Comes script_cmp itself (IsSized IsScript))
unfolding policy_read
policy_was before bytes x fits e =
    let script = bind_ok (script_read bytes) _ x e in
    let s = script_was bytes script.0 fits script.1 in
    let r = require_ok (follows script_cmp before script.0.0) NotRising script.0 x script.2 in
    subst (λ (y : List ℕ × List ℕ). Takes bytes (sized y.0) y.1 × Comes script_cmp itself (IsSized IsScript) before y.0) r.1 (s.0, (r.0, s.1))

pub policy_again : IsComplete policy_read sized (Comes script_cmp itself (IsSized IsScript))
unfolding policy_read
policy_again before script rest good =
    step (script_read (sized script ++ rest)) _ (script, rest) _ (script_again script rest good.1)
    (required (follows script_cmp before script) NotRising (script, rest) good.0)

-- ---- signatures

pub signature_was : IsSound signature_read signature_bytes (Comes signature_cmp itself IsSignature)
unfolding signature_read signature_bytes
signature_was before bytes x fits e =
    let key = bind_ok (field (run_at 32 bytes)) _ x e in
    let k = run_takes 32 bytes key.0.0 key.0.1 fits (or_fault_ok Truncated _ key.0 key.1) in
    let sig = bind_ok (field (run_at 64 key.0.1)) _ x key.2 in
    let s = run_takes 64 key.0.1 sig.0.0 sig.0.1 k.0.rest_fits (or_fault_ok Truncated _ sig.0 sig.1) in
    let signature : Signature × List ℕ = (record { key = key.0.0; sig = sig.0.0 }, sig.0.1) in
    let r = require_ok (follows signature_cmp before signature.0) NotRising signature x sig.2 in
    subst (λ (y : Signature × List ℕ). Takes bytes (signature_bytes y.0) y.1 × Comes signature_cmp itself IsSignature before y.0) r.1
    (Takes-then bytes key.0.0 key.0.1 sig.0.0 sig.0.1 k.0 s.0, (r.0, record { key = k.1; sig = s.1 }))

pub signature_again : IsComplete signature_read signature_bytes (Comes signature_cmp itself IsSignature)
unfolding signature_read signature_bytes
signature_again before s rest good =
    ap (λ (bytes : List ℕ). signature_read before bytes) (append_assoc s.key s.sig rest)
    ∙ field_step (run_at 32 (s.key ++ (s.sig ++ rest))) _ (s.key, s.sig ++ rest) _ (array_again 32 s.key (s.sig ++ rest) good.1.key)
    (field_step (run_at 64 (s.sig ++ rest)) _ (s.sig, rest) _ (array_again 64 s.sig rest good.1.sig)
    (required (follows signature_cmp before s) NotRising (s, rest) good.0))
