-- An operator that is read is the one that was written, and an operator that was written is read again.
use Rattle.std.proofs.Common.{◌≡◌, ◌⊎◌, ℕ, ◌^◌, ◌<◌, ◌≤◌, eqb, List, [], ◌∷◌, ◌++◌, length, Option, Some, None, Result, Ok, Err, refl, sym, ap, subst, ◌∙◌, arith, inl, inr}
use Rattle.std.specs.Prelude.{ℤ}
use Rattle.std.specs.Option.{option_map}
use Rattle.std.specs.Int.{w64, to_be_bytes, cast_unsigned}
use Rattle.std.specs.Int.RustNames.{FitsSigned}
use Rattle.std.proofs.lemmas.Bool.{eqb-true}
use Rattle.std.proofs.lemmas.List.{length-drop}
use Rattle.mp_script.specs.declared.fault.ScriptFault.{ScriptFault}
use Rattle.mp_script.specs.declared.fault.ScriptFault.TheVariants.{Truncated, BadOperator}
use Rattle.mp_script.specs.declared.operator.Leaf.{Leaf}
use Rattle.mp_script.specs.declared.operator.Leaf.TheVariants as leaf
use Rattle.mp_script.specs.declared.operator.Unary.{Unary}
use Rattle.mp_script.specs.declared.operator.Unary.TheVariants as unary
use Rattle.mp_script.specs.declared.operator.Binary.{Binary}
use Rattle.mp_script.specs.declared.operator.Binary.TheVariants as binary
use Rattle.mp_script.specs.declared.operator.Ternary.{Ternary}
use Rattle.mp_script.specs.declared.operator.Ternary.TheVariants as ternary
use Rattle.mp_bytes.specs.Fields.{number_at, run_at}
use Rattle.mp_bytes.specs.Reading.{◌>>=◌, or_fault}
use Rattle.mp_script.specs.Operators.{Operator, leaf_code, unary_code, binary_code, ternary_code, with_code, leaves, unaries, binaries, ternaries, leaf_of, unary_of, binary_of, ternary_of}
use Rattle.mp_script.specs.Operators as op
use Rattle.mp_script.specs.ScriptReading.{or_else, plain_of, int_read, bytes_read, operator_read}
use Rattle.mp_bytes.proofs.Bytes.{IsBytes, IsBytes-rest, bind_ok, or_fault_ok, guard_some, ok_is, Takes, tagged, chosen, some_is}
use Rattle.mp_bytes.proofs.FieldLaws.{number_takes, number_again, run_takes, run_again}

-- the bytes of an operator
abbrev pub op_bytes : Operator → List ℕ
op_bytes (op.int n) = 2 ∷ to_be_bytes w64 (cast_unsigned w64 n)
op_bytes (op.bytes b) = 3 ∷ length b ∷ b
op_bytes (op.nullary o) = leaf_code o ∷ []
op_bytes (op.on_one o) = unary_code o ∷ []
op_bytes (op.on_two o) = binary_code o ∷ []
op_bytes (op.on_three o) = ternary_code o ∷ []

abbrev pub OpFits : Operator → Type 0
OpFits (op.int n) = FitsSigned w64 n
OpFits (op.bytes b) = length b < 2 ^ 8
OpFits (op.nullary o) = Unit {0}
OpFits (op.on_one o) = Unit {0}
OpFits (op.on_two o) = Unit {0}
OpFits (op.on_three o) = Unit {0}

-- ---- by the byte

code_found : {A : Type 0} (code_of : A → ℕ) (among : List A) (code : ℕ) (a : A) → with_code code_of among code ≡ Some a → code ≡ code_of a
code_found code_of [] code a e = absurd cc
code_found code_of (x ∷ among) code a e =
    elim (chosen (eqb code (code_of x)) (Some x) (with_code code_of among code) (Some a) e) [
      | inl p ↦ eqb-true _ _ p.0 ∙ ap code_of (some_is (Some x) x a refl p.1)
      | inr p ↦ code_found code_of among code a p.1
    ]

mapped_some : {A : Type 0} (f : A → Operator) (x : Option A) (o : Operator) → option_map f x ≡ Some o → (a : A) × (x ≡ Some a) × (f a ≡ o)
mapped_some f None o e = absurd cc
mapped_some f (Some a) o e = (a, refl, cc)

or_else_ok : (x : Option Operator) (other : Result Operator ScriptFault) (o : Operator) → or_else x other ≡ Ok o → (x ≡ Some o) ⊎ (other ≡ Ok o)
or_else_ok None other o e = inr e
or_else_ok (Some p) other o e = inl cc

bad_is_none : (o : Operator) → Err BadOperator ≡ Ok o → ⊥
bad_is_none o e = absurd cc

record IsPlain (code : ℕ) (o : Operator) : Type 0 where
  bytes : code ∷ [] ≡ op_bytes o
  fits : OpFits o

plain_found : {A : Type 0} (f : A → Operator) (code_of : A → ℕ) (among : List A) (code : ℕ) (o : Operator) → ((a : A) → IsPlain (code_of a) (f a)) → option_map f (with_code code_of among code) ≡ Some o → IsPlain code o
plain_found f code_of among code o plain e =
    let m = mapped_some f (with_code code_of among code) o e in
    let c = code_found code_of among code m.0 m.1 in
    subst (λ (p : Operator). IsPlain code p) m.2 (subst (λ (k : ℕ). IsPlain k (f m.0)) (sym c) (plain m.0))

plain_is : (code : ℕ) (o : Operator) → plain_of code ≡ Ok o → IsPlain code o
unfolding plain_of
plain_is code o e =
    elim (or_else_ok (option_map op.nullary (leaf_of code)) _ o e) [
      | inl p ↦ plain_found op.nullary leaf_code leaves code o (λ a. record { bytes = refl; fits = tt }) p
      | inr p ↦ elim (or_else_ok (option_map op.on_one (unary_of code)) _ o p) [
        | inl q ↦ plain_found op.on_one unary_code unaries code o (λ a. record { bytes = refl; fits = tt }) q
        | inr q ↦ elim (or_else_ok (option_map op.on_two (binary_of code)) _ o q) [
          | inl r ↦ plain_found op.on_two binary_code binaries code o (λ a. record { bytes = refl; fits = tt }) r
          | inr r ↦ elim (or_else_ok (option_map op.on_three (ternary_of code)) _ o r) [
            | inl s ↦ plain_found op.on_three ternary_code ternaries code o (λ a. record { bytes = refl; fits = tt }) s
            | inr s ↦ absurd (bad_is_none o s)
          ]
        ]
      ]
    ]

-- ---- an operator at the front

pub record WasOp (text : List ℕ) (x : Operator × List ℕ) : Type 0 where
  pub takes : Takes text (op_bytes x.0) x.1
  pub fits : OpFits x.0

int_was : (text : List ℕ) (x : Operator × List ℕ) → IsBytes text → int_read text ≡ Ok x → WasOp (2 ∷ text) x
unfolding int_read
int_was text x fits e =
    let b = bind_ok (or_fault Truncated (number_at text)) (λ n. Ok (op.int n.0, n.1)) x e in
    let t = number_takes text b.0.0 b.0.1 fits (or_fault_ok Truncated (number_at text) b.0 b.1) in
    subst (λ (y : Operator × List ℕ). WasOp (2 ∷ text) y) (ok_is (op.int b.0.0, b.0.1) x b.2) (record { takes = tagged 2 text _ _ t.0; fits = t.1 })

bytes_was : (text : List ℕ) (x : Operator × List ℕ) → IsBytes text → bytes_read text ≡ Ok x → WasOp (3 ∷ text) x
unfolding bytes_read
bytes_was [] x fits e = absurd cc
bytes_was (len ∷ text) x fits e =
    let b = bind_ok (or_fault Truncated (run_at len text)) (λ run. Ok (op.bytes run.0, run.1)) x e in
    let t = run_takes len text b.0.0 b.0.1 (IsBytes-rest len text fits) (or_fault_ok Truncated (run_at len text) b.0 b.1) in
    let same : Takes (len ∷ text) (length b.0.0 ∷ b.0.0) b.0.1 = subst (λ (k : ℕ). Takes (len ∷ text) (k ∷ b.0.0) b.0.1) (sym t.1) (tagged len text _ _ t.0) in
    subst (λ (y : Operator × List ℕ). WasOp (3 ∷ len ∷ text) y) (ok_is (op.bytes b.0.0, b.0.1) x b.2) (record { takes = tagged 3 (len ∷ text) _ _ same; fits = omega (arith, t.1, fits 0) })

plain_was : (code : ℕ) (text : List ℕ) (x : Operator × List ℕ) → IsBytes text → (plain_of code >>= λ o. Ok (o, text)) ≡ Ok x → WasOp (code ∷ text) x
plain_was code text x fits e =
    let b = bind_ok (plain_of code) (λ o. Ok (o, text)) x e in
    let p = plain_is code b.0 b.1 in
    subst (λ (y : Operator × List ℕ). WasOp (code ∷ text) y) (ok_is (b.0, text) x b.2) (record { takes = record { parts = ap (λ (t : List ℕ). t ++ text) p.bytes; rest_fits = fits }; fits = p.fits })

pub operator_was : (text : List ℕ) (x : Operator × List ℕ) → IsBytes text → operator_read text ≡ Ok x → WasOp text x
unfolding operator_read
operator_was [] x fits e = absurd cc
operator_was (code ∷ text) x fits e =
    let rest = IsBytes-rest code text fits in
    elim (chosen (eqb code 2) (int_read text) _ (Ok x) e) [
      | inl p ↦ subst (λ (k : ℕ). WasOp (k ∷ text) x) (sym (eqb-true _ _ p.0)) (int_was text x rest p.1)
      | inr p ↦ elim (chosen (eqb code 3) (bytes_read text) _ (Ok x) p.1) [
        | inl q ↦ subst (λ (k : ℕ). WasOp (k ∷ text) x) (sym (eqb-true _ _ q.0)) (bytes_was text x rest q.1)
        | inr q ↦ plain_was code text x rest q.1
      ]
    ]

number_shorter : (text : List ℕ) (x : ℤ × List ℕ) → number_at text ≡ Some x → length x.1 ≤ length text
unfolding number_at
number_shorter text x e =
    let g = guard_some _ _ x e in
    omega (arith, ap (λ (y : ℤ × List ℕ). length y.1) g.1, length-drop 8 text)

run_shorter : (n : ℕ) (text : List ℕ) (x : List ℕ × List ℕ) → run_at n text ≡ Some x → length x.1 ≤ length text
unfolding run_at
run_shorter n text x e =
    let g = guard_some _ _ x e in
    omega (arith, ap (λ (y : List ℕ × List ℕ). length y.1) g.1, length-drop n text)

int_shorter : (text : List ℕ) (x : Operator × List ℕ) → int_read text ≡ Ok x → length x.1 ≤ length text
unfolding int_read
int_shorter text x e =
    let b = bind_ok (or_fault Truncated (number_at text)) (λ n. Ok (op.int n.0, n.1)) x e in
    subst (λ (y : Operator × List ℕ). length y.1 ≤ length text) (ok_is (op.int b.0.0, b.0.1) x b.2) (number_shorter text b.0 (or_fault_ok Truncated (number_at text) b.0 b.1))

bytes_shorter : (text : List ℕ) (x : Operator × List ℕ) → bytes_read text ≡ Ok x → length x.1 ≤ length text
unfolding bytes_read
bytes_shorter [] x e = absurd cc
bytes_shorter (len ∷ text) x e =
    let b = bind_ok (or_fault Truncated (run_at len text)) (λ run. Ok (op.bytes run.0, run.1)) x e in
    let r = run_shorter len text b.0 (or_fault_ok Truncated (run_at len text) b.0 b.1) in
    subst (λ (y : Operator × List ℕ). length y.1 ≤ length (len ∷ text)) (ok_is (op.bytes b.0.0, b.0.1) x b.2) (omega (arith, r))

plain_shorter : (code : ℕ) (text : List ℕ) (x : Operator × List ℕ) → (plain_of code >>= λ o. Ok (o, text)) ≡ Ok x → length x.1 ≤ length text
plain_shorter code text x e =
    let b = bind_ok (plain_of code) (λ o. Ok (o, text)) x e in
    subst (λ (y : Operator × List ℕ). length y.1 ≤ length text) (ok_is (b.0, text) x b.2) (omega arith)

pub operator_shorter : (text : List ℕ) (x : Operator × List ℕ) → operator_read text ≡ Ok x → length x.1 < length text
unfolding operator_read
operator_shorter [] x e = absurd cc
operator_shorter (code ∷ text) x e =
    elim (chosen (eqb code 2) (int_read text) _ (Ok x) e) [
      | inl p ↦ omega (arith, int_shorter text x p.1)
      | inr p ↦ elim (chosen (eqb code 3) (bytes_read text) _ (Ok x) p.1) [
        | inl q ↦ omega (arith, bytes_shorter text x q.1)
        | inr q ↦ omega (arith, plain_shorter code text x q.1)
      ]
    ]

-- ---- and again

leaf_again : (o : Leaf) (rest : List ℕ) → operator_read (leaf_code o ∷ rest) ≡ Ok (op.nullary o, rest)
unfolding operator_read plain_of
leaf_again leaf.False rest = refl
leaf_again leaf.True rest = refl
leaf_again leaf.Datum rest = refl
leaf_again leaf.Redeemer rest = refl
leaf_again leaf.OwnHash rest = refl
leaf_again leaf.From rest = refl
leaf_again leaf.To rest = refl
leaf_again leaf.OutputCount rest = refl
leaf_again leaf.RefCount rest = refl

unary_again : (o : Unary) (rest : List ℕ) → operator_read (unary_code o ∷ rest) ≡ Ok (op.on_one o, rest)
unfolding operator_read plain_of
unary_again unary.Not rest = refl
unary_again unary.AsInt rest = refl
unary_again unary.AsBytes rest = refl
unary_again unary.Length rest = refl
unary_again unary.SignedBy rest = refl
unary_again unary.RefAddress rest = refl
unary_again unary.RefDatumHash rest = refl

binary_again : (o : Binary) (rest : List ℕ) → operator_read (binary_code o ∷ rest) ≡ Ok (op.on_two o, rest)
unfolding operator_read plain_of
binary_again binary.And rest = refl
binary_again binary.Or rest = refl
binary_again binary.Eq rest = refl
binary_again binary.Less rest = refl
binary_again binary.AtMost rest = refl
binary_again binary.Add rest = refl
binary_again binary.Sub rest = refl
binary_again binary.Mul rest = refl
binary_again binary.Item rest = refl
binary_again binary.OwnQuantity rest = refl
binary_again binary.Spent rest = refl
binary_again binary.Forged rest = refl

ternary_again : (o : Ternary) (rest : List ℕ) → operator_read (ternary_code o ∷ rest) ≡ Ok (op.on_three o, rest)
unfolding operator_read plain_of
ternary_again ternary.If rest = refl
ternary_again ternary.Paid rest = refl
ternary_again ternary.RefQuantity rest = refl

pub operator_again : (o : Operator) (rest : List ℕ) → OpFits o → operator_read (op_bytes o ++ rest) ≡ Ok (o, rest)
unfolding operator_read int_read bytes_read
operator_again (op.int n) rest fits = ap (λ (f : Option (ℤ × List ℕ)). or_fault Truncated f >>= λ n. Ok (op.int n.0, n.1)) (number_again n rest fits)
operator_again (op.bytes b) rest fits = ap (λ (f : Option (List ℕ × List ℕ)). or_fault Truncated f >>= λ run. Ok (op.bytes run.0, run.1)) (run_again b rest)
operator_again (op.nullary o) rest fits = leaf_again o rest
operator_again (op.on_one o) rest fits = unary_again o rest
operator_again (op.on_two o) rest fits = binary_again o rest
operator_again (op.on_three o) rest fits = ternary_again o rest
