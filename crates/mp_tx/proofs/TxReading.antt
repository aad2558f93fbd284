-- What is read as a transaction has this spelling, and a transaction with this spelling is read.
use Rattle.std.proofs.lemmas.List.{take_at, length-append}
use Rattle.std.proofs.Common.{take, ◌-◌, ◌≡◌, ◌⊎◌, ℕ, ◌<◌, ◌≤◌, ◌^◌, arith, Bool, true, false, List, [], ◌∷◌, ◌++◌, length, Option, None, Result, Ok, Err, refl, sym, ap, subst, ◌∙◌, append_assoc, nat_lt, nat_eq, inl, inr, cond}
use Rattle.std.specs.Prelude.{not, map}
use Rattle.std.specs.Int.{w16, to_be_bytes}
use Rattle.std.specs.List.{AllByRecursion}
use Rattle.std.specs.declared.cmp.Ordering.{Ordering}
use Rattle.mp_bundle.specs.Bundle.{TokenEntry}
use Rattle.mp_bytes.specs.Spelling.{sized, counted}
use Rattle.mp_bytes.specs.Fields.{count_at}
use Rattle.mp_bytes.specs.Reading.{◌>>=◌}
use Rattle.mp_bytes.proofs.Bytes.{IsBytes, Takes, Takes-then, bind_ok, ok_is, or_fault_ok, chosen}
use Rattle.mp_bytes.proofs.FieldLaws.{count_takes, count_again}
use Rattle.mp_script.specs.Script.{IsScript}
use Rattle.mp_tx.specs.declared.fault.TxFault.{TxFault}
use Rattle.mp_tx.specs.declared.fault.TxFault.TheVariants.{Truncated, BadVersion, NoReferences, TooLarge}
use Rattle.mp_tx.specs.declared.reference.OutRef.{OutRef}
use Rattle.mp_tx.specs.declared.input.Input.{Input}
use Rattle.mp_tx.specs.declared.output.Output.{Output}
use Rattle.mp_tx.specs.declared.signature.Signature.{Signature}
use Rattle.mp_tx.specs.Reference.{ref_cmp}
use Rattle.mp_tx.specs.Rising.{rises}
use Rattle.mp_tx.specs.Transaction.{Transaction, script_cmp, signature_cmp}
use Rattle.mp_tx.specs.Spelling.{ref_bytes, input_bytes, output_bytes, signature_bytes, bundle_bytes, interval_bytes, version_of, references_bytes, body, spelling, size_of}
use Rattle.mp_tx.specs.Parts.{IsSized, IsInput, IsOutput, IsSignature, IsValue, AreParts, IsTransaction, Spells}
use Rattle.mp_tx.specs.Reading.{field, require, itself, byte_read, version_read, few_read, counted_read, input_read, reference_read, references_read, output_read, interval_read, bundle_read, policy_read, signature_read, body_read, transaction_of, whole}
use Rattle.mp_tx.proofs.Entries.{require_ok}
use Rattle.mp_tx.proofs.Each.{EachAfter, Comes, CountedWere, WereRead, at_most, is_few, counted_were, counted_again, few_were, few_again, items_were, items_again, each_rises, each_is, each_comes}
use Rattle.mp_tx.proofs.Fields.{IsInterval, interval_was, interval_again}
use Rattle.mp_tx.proofs.Bundles.{step, field_step, require_step, byte_was, byte_again, bundle_was, bundle_again}
use Rattle.mp_tx.proofs.PartsRead.{IsLookedAt, IsAny, input_was, input_again, reference_was, reference_again, output_was, output_again, policy_was, policy_again, signature_was, signature_again, none_spent, are_refs, are_looked_at, each_output, any_output}

-- ---- the version

abbrev pub IsVersion : ℕ → Type 0
IsVersion v = (v ≡ 1) ⊎ (v ≡ 2)

is_number : (a b : ℕ) → nat_eq a b ≡ true → a ≡ b
is_number a b e = grind (arith)

pub version_was : (bytes : List ℕ) (v : ℕ × List ℕ) → IsBytes bytes → version_read bytes ≡ Ok v → Takes bytes (v.0 ∷ []) v.1 × IsVersion v.0
unfolding version_read
version_was bytes v fits e =
    let b = bind_ok (byte_read bytes) _ v e in
    let t = byte_was bytes b.0 fits b.1 in
    elim (chosen (nat_eq b.0.0 1) (Ok b.0) (require (nat_eq b.0.0 2) BadVersion b.0) (Ok v) b.2) [
      | inl p ↦ subst (λ (y : ℕ × List ℕ). Takes bytes (y.0 ∷ []) y.1 × IsVersion y.0) (ok_is b.0 v p.1) (t, inl (is_number b.0.0 1 p.0))
      | inr p ↦
          let r = require_ok (nat_eq b.0.0 2) BadVersion b.0 v p.1 in
          subst (λ (y : ℕ × List ℕ). Takes bytes (y.0 ∷ []) y.1 × IsVersion y.0) r.1 (t, inr (is_number b.0.0 2 r.0))
    ]

pub version_again : (refs : List OutRef) (rest : List ℕ) → version_read (version_of refs ∷ rest) ≡ Ok (version_of refs, rest)
unfolding version_read
version_again [] rest = step (byte_read (1 ∷ rest)) _ (1, rest) _ (byte_again 1 rest) refl
version_again (r ∷ refs) rest = step (byte_read (2 ∷ rest)) _ (2, rest) _ (byte_again 2 rest) refl

-- ---- the references

abbrev pub Looked : List Input → Option OutRef → OutRef → Type 0
Looked inputs = Comes ref_cmp itself (IsLookedAt inputs)

pub record ReferencesWere (inputs : List Input) (version : ℕ) (bytes : List ℕ) (x : List OutRef × List ℕ) : Type 0 where
  pub takes : Takes bytes (references_bytes x.0) x.1
  pub version_is : version_of x.0 ≡ version
  pub few : length x.0 < 257
  pub good : EachAfter itself (Looked inputs) None x.0

no_references : (inputs : List Input) (bytes : List ℕ) → IsBytes bytes → ReferencesWere inputs 1 bytes ([], bytes)
no_references inputs bytes fits = record { takes = record { parts = refl; rest_fits = fits }; version_is = refl; few = omega arith; good = tt }

some_references : (inputs : List Input) (bytes : List ℕ) (n : ℕ) (rest : List ℕ) (x : List OutRef × List ℕ) → Takes bytes (to_be_bytes w16 n) rest → 0 < n → n < 257 → WereRead itself ref_bytes (Looked inputs) None n rest x → ReferencesWere inputs 2 bytes x
some_references inputs bytes n rest ([], after) t some few w = absurd (let e = w.number in omega arith)
some_references inputs bytes n rest (r ∷ refs, after) t some few w = record {
  takes = Takes-then bytes (to_be_bytes w16 (length (r ∷ refs))) rest _ after (subst (λ (k : ℕ). Takes bytes (to_be_bytes w16 k) rest) (sym w.number) t) w.takes;
  version_is = refl;
  few = subst (λ (k : ℕ). k < 257) (sym w.number) few;
  good = w.good;
}

above : (n : ℕ) → nat_lt 0 n ≡ true → 0 < n
above n e = grind (arith)

is_above : (n : ℕ) → 0 < n → nat_lt 0 n ≡ true
is_above n lt = grind (arith)

pub references_were : (version : ℕ) (inputs : List Input) (bytes : List ℕ) (x : List OutRef × List ℕ) → IsBytes bytes → IsVersion version → references_read version inputs bytes ≡ Ok x → ReferencesWere inputs version bytes x
unfolding references_read
references_were version inputs bytes x fits (inl one) e =
    let e1 = subst (λ (v : ℕ). references_read v inputs bytes ≡ Ok x) one e in
    subst (λ (v : ℕ). ReferencesWere inputs v bytes x) (sym one) (subst (ReferencesWere inputs 1 bytes) (ok_is ([], bytes) x e1) (no_references inputs bytes fits))
references_were version inputs bytes x fits (inr two) e = subst (λ (v : ℕ). ReferencesWere inputs v bytes x) (sym two) (second (subst (λ (v : ℕ). references_read v inputs bytes ≡ Ok x) two e))
  where
    second : references_read 2 inputs bytes ≡ Ok x → ReferencesWere inputs 2 bytes x
    second e =
        let n = bind_ok (field (count_at bytes)) _ x e in
        let c = count_takes bytes n.0.0 n.0.1 fits (or_fault_ok Truncated _ n.0 n.1) in
        let some = bind_ok (require (nat_lt 0 n.0.0) NoReferences n.0) _ x n.2 in
        let s = require_ok (nat_lt 0 n.0.0) NoReferences n.0 some.0 some.1 in
        let few = bind_ok (require (not (nat_lt 256 some.0.0)) TooLarge some.0) _ x some.2 in
        let f = require_ok (not (nat_lt 256 some.0.0)) TooLarge some.0 few.0 few.1 in
        let t = subst (λ (y : ℕ × List ℕ). Takes bytes (to_be_bytes w16 y.0) y.1 × (0 < y.0)) s.1 (c.0, above n.0.0 s.0) in
        let u = subst (λ (y : ℕ × List ℕ). (Takes bytes (to_be_bytes w16 y.0) y.1 × (0 < y.0)) × (y.0 < 257)) f.1 (t, at_most some.0.0 f.0) in
        some_references inputs bytes few.0.0 few.0.1 x u.0.0 u.0.1 u.1
        (items_were itself (reference_read inputs) ref_bytes (Looked inputs) (reference_was inputs) few.0.0 None few.0.1 x u.0.0.rest_fits few.2)

pub references_again : (inputs : List Input) (refs : List OutRef) (rest : List ℕ) → length refs < 257 → EachAfter itself (Looked inputs) None refs → references_read (version_of refs) inputs (references_bytes refs ++ rest) ≡ Ok (refs, rest)
unfolding references_read
references_again inputs [] rest few good = refl
references_again inputs (r ∷ refs) rest few good =
    let n : ℕ = length (r ∷ refs) in
    let items : List ℕ = Rattle.std.specs.Prelude.flat_map ref_bytes (r ∷ refs) in
    ap (λ (bytes : List ℕ). references_read 2 inputs bytes) (append_assoc (to_be_bytes w16 n) items rest)
    ∙ field_step (count_at (to_be_bytes w16 n ++ (items ++ rest))) _ (n, items ++ rest) _ (count_again n (items ++ rest) (omega (arith, few)))
    (require_step (nat_lt 0 n) NoReferences (n, items ++ rest) _ _ (is_above n (omega arith))
    (require_step (not (nat_lt 256 n)) TooLarge (n, items ++ rest) _ _ (is_few n few)
    (items_again itself (reference_read inputs) ref_bytes (Looked inputs) (reference_again inputs) (r ∷ refs) None rest good)))

-- ---- everything before the signatures

pub record BodyWas (bytes : List ℕ) (x : Transaction × List ℕ) : Type 0 where
  pub takes : Takes bytes (body x.0) x.1
  pub inputs : EachAfter (λ i. i.from) (Comes ref_cmp (λ i. i.from) IsInput) None x.0.inputs
  pub few_inputs : length x.0.inputs < 257
  pub references : EachAfter itself (Looked x.0.inputs) None x.0.references
  pub few_references : length x.0.references < 257
  pub outputs : AllByRecursion IsOutput x.0.outputs
  pub few_outputs : length x.0.outputs < 257
  pub interval : IsInterval (x.0.from, x.0.to)
  pub forge : IsValue x.0.forge
  pub scripts : EachAfter itself (Comes script_cmp itself (IsSized IsScript)) None x.0.scripts
  pub few_scripts : length x.0.scripts < 2 ^ 16

body_takes : (bytes r0 : List ℕ) (inputs : List Input) (r1 : List ℕ) (refs : List OutRef) (r2 : List ℕ) (outputs : List Output) (r3 : List ℕ) (i : ℕ × ℕ) (r4 : List ℕ) (forge : List TokenEntry) (r5 : List ℕ) (scripts : List (List ℕ)) (r6 : List ℕ) → Takes bytes (version_of refs ∷ []) r0 → Takes r0 (counted input_bytes inputs) r1 → Takes r1 (references_bytes refs) r2 → Takes r2 (counted output_bytes outputs) r3 → Takes r3 (interval_bytes i) r4 → Takes r4 (bundle_bytes forge) r5 → Takes r5 (counted sized scripts) r6 → Takes bytes (body (record { inputs = inputs; references = refs; outputs = outputs; from = i.0; to = i.1; forge = forge; scripts = scripts; signatures = [] })) r6
unfolding body
body_takes bytes r0 inputs r1 refs r2 outputs r3 i r4 forge r5 scripts r6 v t1 t2 t3 t4 t5 t6 =
    let a = Takes-then bytes (version_of refs ∷ []) r0 (counted input_bytes inputs) r1 v t1 in
    let b = Takes-then bytes _ r1 (references_bytes refs) r2 a t2 in
    let c = Takes-then bytes _ r2 (counted output_bytes outputs) r3 b t3 in
    let d = Takes-then bytes _ r3 (interval_bytes i) r4 c t4 in
    let f = Takes-then bytes _ r4 (bundle_bytes forge) r5 d t5 in
    Takes-then bytes _ r5 (counted sized scripts) r6 f t6

pub body_was : (bytes : List ℕ) (x : Transaction × List ℕ) → IsBytes bytes → body_read bytes ≡ Ok x → BodyWas bytes x
unfolding body_read
body_was bytes x fits e =
    let version = bind_ok (version_read bytes) _ x e in
    let v = version_was bytes version.0 fits version.1 in
    let inputs = bind_ok (few_read (λ i. i.from) input_read version.0.1) _ x version.2 in
    let i = few_were (λ i. i.from) input_read input_bytes (Comes ref_cmp (λ i. i.from) IsInput) input_was version.0.1 inputs.0 v.0.rest_fits inputs.1 in
    let refs = bind_ok (references_read version.0.0 inputs.0.0 inputs.0.1) _ x inputs.2 in
    let r = references_were version.0.0 inputs.0.0 inputs.0.1 refs.0 i.takes.rest_fits v.1 refs.1 in
    let outputs = bind_ok (few_read itself output_read refs.0.1) _ x refs.2 in
    let o = few_were itself output_read output_bytes IsAny output_was refs.0.1 outputs.0 r.takes.rest_fits outputs.1 in
    let interval = bind_ok (interval_read outputs.0.1) _ x outputs.2 in
    let t = interval_was outputs.0.1 interval.0 o.takes.rest_fits interval.1 in
    let forge = bind_ok (bundle_read interval.0.1) _ x interval.2 in
    let f = bundle_was interval.0.1 forge.0 t.0.rest_fits forge.1 in
    let scripts = bind_ok (counted_read itself policy_read forge.0.1) _ x forge.2 in
    let s = counted_were itself policy_read sized (Comes script_cmp itself (IsSized IsScript)) policy_was forge.0.1 scripts.0 f.0.rest_fits scripts.1 in
    subst (BodyWas bytes) (ok_is _ x scripts.2) (record {
      takes = body_takes bytes version.0.1 inputs.0.0 inputs.0.1 refs.0.0 refs.0.1 outputs.0.0 outputs.0.1 interval.0.0 interval.0.1 forge.0.0 forge.0.1 scripts.0.0 scripts.0.1
          (subst (λ (k : ℕ). Takes bytes (k ∷ []) version.0.1) (sym r.version_is) v.0) i.takes r.takes o.takes t.0 f.0 s.takes;
      inputs = i.good;
      few_inputs = i.few;
      references = r.good;
      few_references = r.few;
      outputs = each_output None outputs.0.0 o.good;
      few_outputs = o.few;
      interval = t.1;
      forge = f.1;
      scripts = s.good;
      few_scripts = s.few;
    })

-- ---- orders of items that are their own keys

map_itself : {X : Type 0} (xs : List X) → map itself xs ≡ xs
map_itself [] = refl
map_itself (x ∷ xs) = ap (λ ys. x ∷ ys) (map_itself xs)

own_rises : {X : Type 0} (cmp : X → X → Ordering) (Is : X → Type 0) (xs : List X) → EachAfter itself (Comes cmp itself Is) None xs → rises cmp xs ≡ true
own_rises cmp Is xs each = subst (λ ys. rises cmp ys ≡ true) (map_itself xs) (each_rises cmp itself Is None xs each)

own_comes : {X : Type 0} (cmp : X → X → Ordering) (Is : X → Type 0) (xs : List X) → rises cmp xs ≡ true → AllByRecursion Is xs → EachAfter itself (Comes cmp itself Is) None xs
own_comes cmp Is xs rising all = each_comes cmp itself Is None xs (subst (λ ys. rises cmp ys ≡ true) (sym (map_itself xs)) rising) all

-- ---- the whole

abbrev pub unsigned : Transaction → Transaction
unsigned t = record t { signatures = [] }

assoc6 : (a b c d e f r : List ℕ) → a ++ b ++ c ++ d ++ e ++ f ++ r ≡ a ++ (b ++ (c ++ (d ++ (e ++ (f ++ r)))))
assoc6 a b c d e f r =
    append_assoc (a ++ b ++ c ++ d ++ e) f r ∙ append_assoc (a ++ b ++ c ++ d) e (f ++ r) ∙ append_assoc (a ++ b ++ c) d (e ++ (f ++ r))
    ∙ append_assoc (a ++ b) c (d ++ (e ++ (f ++ r))) ∙ append_assoc a b (c ++ (d ++ (e ++ (f ++ r))))

pub body_again : (t : Transaction) (rest : List ℕ) → AreParts t → IsTransaction t → body_read (body t ++ rest) ≡ Ok (unsigned t, rest)
unfolding body_read body
body_again t rest parts fits =
    let A : List ℕ = counted input_bytes t.inputs in
    let B : List ℕ = references_bytes t.references in
    let C : List ℕ = counted output_bytes t.outputs in
    let D : List ℕ = interval_bytes (t.from, t.to) in
    let F : List ℕ = bundle_bytes t.forge in
    let G : List ℕ = counted sized t.scripts in
    let v : ℕ = version_of t.references in
    let r5 : List ℕ = G ++ rest in
    let r4 : List ℕ = F ++ (G ++ rest) in
    let r3 : List ℕ = D ++ (F ++ (G ++ rest)) in
    let r2 : List ℕ = C ++ (D ++ (F ++ (G ++ rest))) in
    let r1 : List ℕ = B ++ (C ++ (D ++ (F ++ (G ++ rest)))) in
    let r0 : List ℕ = A ++ (B ++ (C ++ (D ++ (F ++ (G ++ rest))))) in
    ap (λ (bytes : List ℕ). body_read bytes) (assoc6 (v ∷ A) B C D F G rest)
    ∙ step (version_read (v ∷ r0)) _ (v, r0) _ (version_again t.references r0)
    (step (few_read (λ i. i.from) input_read r0) _ (t.inputs, r1) _
    (few_again (λ i. i.from) input_read input_bytes (Comes ref_cmp (λ i. i.from) IsInput) input_again t.inputs r1 (omega (arith, fits.few_inputs)) (each_comes ref_cmp (λ i. i.from) IsInput None t.inputs fits.inputs_rise parts.inputs))
    (step (references_read v t.inputs r1) _ (t.references, r2) _
    (references_again t.inputs t.references r2 (omega (arith, fits.few_references)) (own_comes ref_cmp (IsLookedAt t.inputs) t.references fits.references_rise (are_looked_at t.inputs t.references fits.unspent parts.references)))
    (step (few_read itself output_read r2) _ (t.outputs, r3) _
    (few_again itself output_read output_bytes IsAny output_again t.outputs r3 (omega (arith, fits.few_outputs)) (any_output None t.outputs parts.outputs))
    (step (interval_read r3) _ ((t.from, t.to), r4) _ (interval_again (t.from, t.to) r4 (record { from = parts.from; to = parts.to; rising = fits.interval }))
    (step (bundle_read r4) _ (t.forge, r5) _ (bundle_again t.forge r5 parts.forge)
    (step (counted_read itself policy_read r5) _ (t.scripts, rest) _
    (counted_again itself policy_read sized (Comes script_cmp itself (IsSized IsScript)) policy_again t.scripts rest parts.few_scripts (own_comes script_cmp (IsSized IsScript) t.scripts fits.scripts_rise parts.scripts))
    refl))))))

record WholeWas {A : Type 0} (x : A × List ℕ) (y : A) : Type 0 where
  same : x.0 ≡ y
  none : x.1 ≡ []

whole_ok : {A : Type 0} (x : A × List ℕ) (y : A) → whole x ≡ Ok y → WholeWas x y
whole_ok (x, []) y e = record { same = ok_is x y e; none = refl }
whole_ok (x, b ∷ bytes) y e = absurd Prim.cc

with_signatures : (u : Transaction) (s : List Signature) → body (record u { signatures = s }) ≡ body u
unfolding body
with_signatures u s = refl

append_nil : (xs : List ℕ) → xs ++ [] ≡ xs
append_nil [] = refl
append_nil (x ∷ xs) = ap (λ ys. x ∷ ys) (append_nil xs)

spelled_of : (bytes r6 r7 : List ℕ) (u : Transaction) (s : List Signature) → Takes bytes (body u) r6 → Takes r6 (counted signature_bytes s) r7 → r7 ≡ [] → bytes ≡ spelling (record u { signatures = s })
unfolding spelling
spelled_of bytes r6 r7 u s b t none =
    b.parts ∙ ap (λ (r : List ℕ). body u ++ r) (t.parts ∙ ap (λ (r : List ℕ). counted signature_bytes s ++ r) none ∙ append_nil (counted signature_bytes s))
    ∙ ap (λ (front : List ℕ). front ++ counted signature_bytes s) (sym (with_signatures u s))

long_enough : (n : ℕ) → nat_lt 16384 n ≡ false → n ≤ 16384
long_enough n e = grind (arith)

not_long : (n : ℕ) → n ≤ 16384 → nat_lt 16384 n ≡ false
not_long n le = grind (arith)

pub size_is : (bytes : List ℕ) (t : Transaction) → bytes ≡ spelling t → size_of t ≡ length bytes
unfolding size_of
size_is bytes t e = sym (ap length e)

-- what was read before the signatures, and the whole transaction
pub record TransactionWas (bytes : List ℕ) (t : Transaction) : Type 0 where
  pub rest : List ℕ
  pub before : bytes ≡ body t ++ rest
  pub spells : Spells bytes t

were_read : (bytes : List ℕ) (u : Transaction × List ℕ) (s : List Signature × List ℕ) → length bytes ≤ 16384 → BodyWas bytes u → CountedWere itself signature_bytes (Comes signature_cmp itself IsSignature) (2 ^ 16) u.1 s → s.1 ≡ [] → TransactionWas bytes (record u.0 { signatures = s.0 })
were_read bytes u s short b g none =
    let spelled = spelled_of bytes u.1 s.1 u.0 s.0 b.takes g.takes none in
    let looked = each_is ref_cmp itself (IsLookedAt u.0.inputs) None u.0.references b.references in
    record {
      rest = u.1;
      before = b.takes.parts ∙ ap (λ (front : List ℕ). front ++ u.1) (sym (with_signatures u.0 s.0));
      spells = record {
        spelled = spelled;
        parts = record {
          inputs = each_is ref_cmp (λ i. i.from) IsInput None u.0.inputs b.inputs;
          references = are_refs u.0.inputs u.0.references looked;
          outputs = b.outputs;
          from = b.interval.from;
          to = b.interval.to;
          forge = b.forge;
          scripts = each_is script_cmp itself (IsSized IsScript) None u.0.scripts b.scripts;
          few_scripts = b.few_scripts;
          signatures = each_is signature_cmp itself IsSignature None s.0 g.good;
          few_signatures = g.few;
        };
        fits = record {
          inputs_rise = each_rises ref_cmp (λ i. i.from) IsInput None u.0.inputs b.inputs;
          references_rise = own_rises ref_cmp (IsLookedAt u.0.inputs) u.0.references b.references;
          scripts_rise = own_rises script_cmp (IsSized IsScript) u.0.scripts b.scripts;
          signatures_rise = own_rises signature_cmp IsSignature s.0 g.good;
          unspent = none_spent u.0.inputs u.0.references looked;
          interval = b.interval.rising;
          few_inputs = omega (arith, b.few_inputs);
          few_references = omega (arith, b.few_references);
          few_outputs = omega (arith, b.few_outputs);
          small = subst (λ (n : ℕ). n ≤ 16384) (sym (size_is bytes (record u.0 { signatures = s.0 }) spelled)) short;
        };
      };
    }

pub transaction_was : (bytes : List ℕ) (t : Transaction) → IsBytes bytes → transaction_of bytes ≡ Ok t → TransactionWas bytes t
unfolding transaction_of
transaction_was bytes t fits e =
    elim (chosen (nat_lt 16384 (length bytes)) (Err TooLarge) (body_read bytes >>= λ u. counted_read itself signature_read u.1 >>= λ s. whole (record u.0 { signatures = s.0 }, s.1)) (Ok t) e) [
      | inl p ↦ absurd (let e = p.1 in Prim.cc)
      | inr p ↦
          let u = bind_ok (body_read bytes) _ t p.1 in
          let b = body_was bytes u.0 fits u.1 in
          let s = bind_ok (counted_read itself signature_read u.0.1) _ t u.2 in
          let g = counted_were itself signature_read signature_bytes (Comes signature_cmp itself IsSignature) signature_was u.0.1 s.0 b.takes.rest_fits s.1 in
          let w = whole_ok (record u.0.0 { signatures = s.0.0 }, s.0.1) t s.2 in
          subst (TransactionWas bytes) w.same (were_read bytes u.0 s.0 (long_enough (length bytes) p.0) b g w.none)
    ]

pub transaction_again : (bytes : List ℕ) (t : Transaction) → Spells bytes t → transaction_of bytes ≡ Ok t
unfolding transaction_of spelling
transaction_again bytes t s =
    let sigs : List ℕ = counted signature_bytes t.signatures in
    let short : nat_lt 16384 (length bytes) ≡ false = not_long (length bytes) (subst (λ (n : ℕ). n ≤ 16384) (size_is bytes t s.spelled) s.fits.small) in
    ap (λ (b : Bool). cond b (Err TooLarge) (body_read bytes >>= λ u. counted_read itself signature_read u.1 >>= λ s. whole (record u.0 { signatures = s.0 }, s.1))) short
    ∙ step (body_read bytes) _ (unsigned t, sigs) _ (ap (λ (b : List ℕ). body_read b) s.spelled ∙ body_again t sigs s.parts s.fits)
    (step (counted_read itself signature_read sigs) _ (t.signatures, []) _
    (ap (λ (b : List ℕ). counted_read itself signature_read b) (sym (append_nil sigs)) ∙ counted_again itself signature_read signature_bytes (Comes signature_cmp itself IsSignature) signature_again t.signatures [] s.parts.few_signatures (own_comes signature_cmp IsSignature t.signatures s.fits.signatures_rise s.parts.signatures))
    refl)

-- ---- everything before the signatures, as a slice

pub rest_shorter : (bytes front rest : List ℕ) → bytes ≡ front ++ rest → length rest ≤ length bytes
rest_shorter bytes front rest e = omega (arith, ap length e, length-append front rest)

pub front_is : (bytes front rest : List ℕ) → bytes ≡ front ++ rest → take (length bytes - length rest) bytes ≡ front
front_is bytes front rest e =
    let n : length bytes - length rest ≡ length front = omega (arith, ap length e, length-append front rest) in
    ap (λ (k : ℕ). take k bytes) n ∙ ap (λ (b : List ℕ). take (length front) b) e ∙ take_at front rest (length front) refl

pub same_body : (u : Transaction) (s : List Signature) → body u ≡ body (record u { signatures = s })
same_body u s = sym (with_signatures u s)

-- ---- what was written

pub record IsWritten (t : Transaction) (front all : List ℕ) : Type 0 where
  pub front_is : front ≡ body t
  pub all_is : all ≡ spelling t
  pub size : length all ≡ size_of t

pub was_written : (t : Transaction) (none front all : List ℕ) (s : List Signature) → none ≡ [] → front ≡ none ++ body t → all ≡ front ++ counted signature_bytes s → s ≡ t.signatures → IsWritten t front all
unfolding spelling size_of
was_written t none front all s e f a same =
    let g : front ≡ body t = f ∙ ap (λ (n : List ℕ). n ++ body t) e in
    let h : all ≡ body t ++ counted signature_bytes t.signatures = a ∙ ap (λ (n : List ℕ). n ++ counted signature_bytes s) g ∙ ap (λ (u : List Signature). body t ++ counted signature_bytes u) same in
    record { front_is = g; all_is = h; size = ap length h }

abbrev result_ok : Transaction → Result Transaction TxFault
result_ok t = Ok t

pub read_once : (t u : Transaction) → result_ok t ≡ result_ok u → t ≡ u
read_once t u e = ok_is t u e
