-- The parts of a small transaction are few and short, since its spelling contains them all.
use Rattle.std.proofs.Common.{◌≡◌, ℕ, ◌<◌, ◌≤◌, ◌^◌, List, [], ◌∷◌, ◌++◌, length, arith}
use Rattle.std.specs.Prelude.{flat_map}
use Rattle.std.specs.Int.{w16, w64, to_be_bytes, cast_unsigned}
use Rattle.std.specs.List.{All, AllByRecursion}
use Rattle.std.proofs.lemmas.List.{length-append}
use Rattle.std.proofs.lemmas.List.Elements.{All-nil, All-cons, All-head, All-tail, recursion_from_All}
use Rattle.mp_bundle.specs.Bundle.{TokenEntry}
use Rattle.mp_bytes.specs.Spelling.{sized, counted}
use Rattle.mp_script.specs.Script.{IsScript}
use Rattle.mp_tx.specs.declared.input.Input.{Input}
use Rattle.mp_tx.specs.declared.output.Output.{Output}
use Rattle.mp_tx.specs.declared.signature.Signature.{Signature}
use Rattle.mp_tx.specs.Transaction.{Transaction}
use Rattle.mp_tx.specs.Spelling.{input_bytes, ref_bytes, entry_bytes, bundle_bytes, output_bytes, signature_bytes, references_bytes, interval_bytes, version_of, body, spelling, size_of}
use Rattle.mp_tx.specs.Parts.{IsSized, IsInput, IsValue, IsOutput, IsSignature, AreParts, IsTransaction, Spells}
use Rattle.mp_tx.specs.Inside.Parts.{IsTypedInput, IsTypedValue, IsTypedOutput, AreTyped}

-- ---- lengths

left_short : (a b : List ℕ) (n : ℕ) → length (a ++ b) ≤ n → length a ≤ n
left_short a b n le = let e = length-append a b in omega arith

right_short : (a b : List ℕ) (n : ℕ) → length (a ++ b) ≤ n → length b ≤ n
right_short a b n le = let e = length-append a b in omega arith

-- the bytes of each item are short if all together are
each_short : {X : Type 0} (spelled : X → List ℕ) (n : ℕ) (xs : List X) → length (flat_map spelled xs) ≤ n → All (λ x. length (spelled x) ≤ n) xs
each_short spelled n [] le = All-nil (λ x. length (spelled x) ≤ n)
each_short spelled n (x ∷ xs) le =
    All-cons (λ x. length (spelled x) ≤ n) x xs (left_short (spelled x) (flat_map spelled xs) n le) (each_short spelled n xs (right_short (spelled x) (flat_map spelled xs) n le))

-- there are at most as many items as bytes, if each has a byte
few_items : {X : Type 0} (spelled : X → List ℕ) (xs : List X) → All (λ x. 1 ≤ length (spelled x)) xs → length xs ≤ length (flat_map spelled xs)
few_items spelled [] all = omega arith
few_items spelled (x ∷ xs) all =
    let first = All-head (λ x. 1 ≤ length (spelled x)) x xs all in
    let others = few_items spelled xs (All-tail (λ x. 1 ≤ length (spelled x)) x xs all) in
    let e = length-append (spelled x) (flat_map spelled xs) in
    omega arith

-- two facts of each item give a third
both : {X : Type 0} (P Q R : X → Type 0) → ((x : X) → P x → Q x → R x) → (xs : List X) → All P xs → All Q xs → AllByRecursion R xs
both P Q R f [] p q = tt
both P Q R f (x ∷ xs) p q = (f x (All-head P x xs p) (All-head Q x xs q), both P Q R f xs (All-tail P x xs p) (All-tail Q x xs q))

counted_short : {X : Type 0} (spelled : X → List ℕ) (n : ℕ) (xs : List X) → length (counted spelled xs) ≤ n → length (flat_map spelled xs) ≤ n
counted_short spelled n xs le = right_short (to_be_bytes w16 (length xs)) (flat_map spelled xs) n le

sized_short : (n : ℕ) (bytes : List ℕ) → length (sized bytes) ≤ n → length bytes ≤ n
sized_short n bytes le = right_short (to_be_bytes w16 (length bytes)) bytes n le

sized_some : (bytes : List ℕ) → 1 ≤ length (sized bytes)
sized_some bytes = let e = length-append (to_be_bytes w16 (length bytes)) bytes in omega arith

-- ---- parts

below : (n : ℕ) → n ≤ 16384 → n < 2 ^ 16
below n le = omega arith

input_fits : (i : Input) → IsTypedInput i → length (input_bytes i) ≤ 16384 → IsInput i
unfolding input_bytes
input_fits i is le =
    let to_datum = left_short (ref_bytes i.from ++ sized i.validator ++ sized i.datum) (sized i.redeemer) 16384 le in
    let to_validator = left_short (ref_bytes i.from ++ sized i.validator) (sized i.datum) 16384 to_datum in
    record {
      from = is.from;
      validator = record { whole = is.validator; short = below _ (sized_short 16384 i.validator (right_short (ref_bytes i.from) (sized i.validator) 16384 to_validator)) };
      datum = record { whole = is.datum; short = below _ (sized_short 16384 i.datum (right_short (ref_bytes i.from ++ sized i.validator) (sized i.datum) 16384 to_datum)) };
      redeemer = record { whole = is.redeemer; short = below _ (sized_short 16384 i.redeemer (right_short (ref_bytes i.from ++ sized i.validator ++ sized i.datum) (sized i.redeemer) 16384 le)) };
    }

some : (policy name rest : List ℕ) (n : ℕ) → 1 ≤ length (policy ++ n ∷ name ++ rest)
some policy name rest n =
    let a = length-append (policy ++ n ∷ name) rest in
    let b = length-append policy (n ∷ name) in
    omega arith

entry_some : (e : TokenEntry) → 1 ≤ length (entry_bytes e)
unfolding entry_bytes
entry_some e = some e.0.policy e.0.name (to_be_bytes w64 (cast_unsigned w64 e.1)) (length e.0.name)

each_entry_some : (es : List TokenEntry) → All (λ e. 1 ≤ length (entry_bytes e)) es
each_entry_some [] = All-nil (λ e. 1 ≤ length (entry_bytes e))
each_entry_some (e ∷ es) = All-cons (λ e. 1 ≤ length (entry_bytes e)) e es (entry_some e) (each_entry_some es)

value_fits : (es : List TokenEntry) → IsTypedValue es → length (bundle_bytes es) ≤ 16384 → IsValue es
unfolding bundle_bytes
value_fits es is le =
    let few = few_items entry_bytes es (each_entry_some es) in
    let short = counted_short entry_bytes 16384 es le in
    record {
      bundle = is.bundle;
      few = omega arith;
      policies = recursion_from_All (λ e. length e.0.policy ≡ 32) es is.policies;
    }

output_fits : (o : Output) → IsTypedOutput o → length (output_bytes o) ≤ 16384 → IsOutput o
unfolding output_bytes
output_fits o is le = record {
  address = is.address;
  datum_hash = is.datum_hash;
  value = value_fits o.value is.value (right_short (o.address ++ o.datum_hash) (bundle_bytes o.value) 16384 le);
}

script_fits : (s : List ℕ) → IsScript s → length (sized s) ≤ 16384 → IsSized IsScript s
script_fits s is le = record { whole = is; short = below _ (sized_short 16384 s le) }

each_sized_some : (ss : List (List ℕ)) → All (λ s. 1 ≤ length (sized s)) ss
each_sized_some [] = All-nil (λ s. 1 ≤ length (sized s))
each_sized_some (s ∷ ss) = All-cons (λ s. 1 ≤ length (sized s)) s ss (sized_some s) (each_sized_some ss)

signature_some : (s : Signature) → IsSignature s → 1 ≤ length (signature_bytes s)
unfolding signature_bytes
signature_some s is = let n = length-append s.key s.sig in let k = is.key in omega arith

each_signature_some : (ss : List Signature) → All IsSignature ss → All (λ s. 1 ≤ length (signature_bytes s)) ss
each_signature_some [] all = All-nil (λ s. 1 ≤ length (signature_bytes s))
each_signature_some (s ∷ ss) all =
    All-cons (λ s. 1 ≤ length (signature_bytes s)) s ss (signature_some s (All-head IsSignature s ss all)) (each_signature_some ss (All-tail IsSignature s ss all))

-- ---- all of them

-- the parts of a body, short if the body is
record AreShort (t : Transaction) : Type 0 where
  inputs : length (flat_map input_bytes t.inputs) ≤ 16384
  outputs : length (flat_map output_bytes t.outputs) ≤ 16384
  forge : length (bundle_bytes t.forge) ≤ 16384
  scripts : length (flat_map sized t.scripts) ≤ 16384

after_one : (n : ℕ) (bytes : List ℕ) → length (n ∷ bytes) ≤ 16384 → length bytes ≤ 16384
after_one n bytes le = omega arith

body_short : (t : Transaction) → length (body t) ≤ 16384 → AreShort t
unfolding body
body_short t le =
    let to_inputs = version_of t.references ∷ counted input_bytes t.inputs in
    let to_references = to_inputs ++ references_bytes t.references in
    let to_outputs = to_references ++ counted output_bytes t.outputs in
    let to_interval = to_outputs ++ interval_bytes (t.from, t.to) in
    let to_forge = to_interval ++ bundle_bytes t.forge in
    let a = left_short to_forge (counted sized t.scripts) 16384 le in
    let b = left_short to_outputs (interval_bytes (t.from, t.to)) 16384 (left_short to_interval (bundle_bytes t.forge) 16384 a) in
    let c = left_short to_inputs (references_bytes t.references) 16384 (left_short to_references (counted output_bytes t.outputs) 16384 b) in
    record {
      inputs = counted_short input_bytes 16384 t.inputs (after_one (version_of t.references) (counted input_bytes t.inputs) c);
      outputs = counted_short output_bytes 16384 t.outputs (right_short to_references (counted output_bytes t.outputs) 16384 b);
      forge = right_short to_interval (bundle_bytes t.forge) 16384 a;
      scripts = counted_short sized 16384 t.scripts (right_short to_forge (counted sized t.scripts) 16384 le);
    }

parts_of_short : (t : Transaction) → AreTyped t → AreShort t → length (flat_map signature_bytes t.signatures) ≤ 16384 → AreParts t
parts_of_short t is s le =
    let few_scripts = few_items sized t.scripts (each_sized_some t.scripts) in
    let few_signatures = few_items signature_bytes t.signatures (each_signature_some t.signatures is.signatures) in
    let short = s.scripts in
    record {
      inputs = both IsTypedInput (λ i. length (input_bytes i) ≤ 16384) IsInput input_fits t.inputs is.inputs (each_short input_bytes 16384 t.inputs s.inputs);
      references = recursion_from_All _ t.references is.references;
      outputs = both IsTypedOutput (λ o. length (output_bytes o) ≤ 16384) IsOutput output_fits t.outputs is.outputs (each_short output_bytes 16384 t.outputs s.outputs);
      from = is.from;
      to = is.to;
      forge = value_fits t.forge is.forge s.forge;
      scripts = both IsScript (λ b. length (sized b) ≤ 16384) (IsSized IsScript) script_fits t.scripts is.scripts (each_short sized 16384 t.scripts s.scripts);
      few_scripts = omega arith;
      signatures = recursion_from_All IsSignature t.signatures is.signatures;
      few_signatures = omega arith;
    }

spelling_parts : (t : Transaction) → AreTyped t → length (spelling t) ≤ 16384 → AreParts t
unfolding spelling
spelling_parts t is le =
    parts_of_short t is (body_short t (left_short (body t) (counted signature_bytes t.signatures) 16384 le))
    (counted_short signature_bytes 16384 t.signatures (right_short (body t) (counted signature_bytes t.signatures) 16384 le))

small_parts : (t : Transaction) → AreTyped t → size_of t ≤ 16384 → AreParts t
unfolding size_of
small_parts t is le = spelling_parts t is le

-- the spelling of a transaction spells it
pub spelled : (bytes : List ℕ) (t : Transaction) → AreTyped t → IsTransaction t → bytes ≡ spelling t → Spells bytes t
spelled bytes t is fits e = record { parts = small_parts t is fits.small; fits = fits; spelled = e }
