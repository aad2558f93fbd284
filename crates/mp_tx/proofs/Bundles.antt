-- A bundle that is read has this spelling, and one that has this spelling is read.
use Rattle.std.proofs.Common.{◌≡◌, ℕ, ◌≤◌, ◌-◌, ◌^◌, arith, Bool, true, List, [], ◌∷◌, ◌++◌, length, Option, None, Some, Result, Ok, refl, sym, ap, subst, ◌∙◌, append_assoc, nat_lt}
use Rattle.std.specs.Prelude.{ℤ, not, is_none}
use Rattle.std.specs.Int.{w64, to_be_bytes, cast_unsigned}
use Rattle.std.specs.Int.RustNames.{FitsSigned}
use Rattle.std.specs.List.{AllByRecursion}
use Rattle.std.specs.Option.{option_or}
use Rattle.std.proofs.lemmas.Int.{ints}
use Rattle.mp_bundle.specs.declared.token.Token.{Token}
use Rattle.mp_bundle.specs.declared.fault.BundleFault.{BundleFault}
use Rattle.mp_bundle.specs.Bundle.{TokenEntry, IsWithin}
use Rattle.mp_bundle.specs.BundleFault.{entry_fault, fault_after}
use Rattle.mp_bundle.proofs.Faults.{fine, first_none, bundle_from_none, none_from_bundle}
use Rattle.mp_bytes.specs.Fields.{number_at, run_at}
use Rattle.mp_bytes.specs.Reading.{◌>>=◌}
use Rattle.mp_bytes.proofs.Bytes.{IsBytes, IsBytes-rest, Takes, Takes-then, bind_ok, ok_is, or_fault_ok}
use Rattle.mp_bytes.proofs.FieldLaws.{run_takes, run_again, number_takes, number_again}
use Rattle.mp_tx.specs.declared.fault.TxFault.{TxFault}
use Rattle.mp_tx.specs.declared.fault.TxFault.TheVariants.{Truncated, BadBundle}
use Rattle.mp_tx.specs.Spelling.{entry_bytes, bundle_bytes}
use Rattle.mp_tx.specs.Parts.{IsValue}
use Rattle.mp_tx.specs.Reading.{field, require, byte_read, entry_read, bundle_read}
use Rattle.mp_tx.proofs.Entries.{require_ok, none_is}
use Rattle.mp_tx.proofs.Each.{EachAfter, IsSound, IsComplete, counted_were, counted_again}
use Rattle.mp_tx.proofs.Fields.{array_again}

-- ---- steps of reading

pub step : {A B : Type 0} (r : Result A TxFault) (f : A → Result B TxFault) (x : A) (y : Result B TxFault) → r ≡ Ok x → f x ≡ y → (r >>= f) ≡ y
step r f x y e h = ap (λ s. s >>= f) e ∙ h

pub field_step : {A B : Type 0} (o : Option (A × List ℕ)) (f : A × List ℕ → Result B TxFault) (x : A × List ℕ) (y : Result B TxFault) → o ≡ Some x → f x ≡ y → (field o >>= f) ≡ y
field_step o f x y e h = ap (λ s. field s >>= f) e ∙ h

pub require_step : {A B : Type 0} (test : Bool) (fault : TxFault) (x : A) (f : A → Result B TxFault) (y : Result B TxFault) → test ≡ true → f x ≡ y → (require test fault x >>= f) ≡ y
require_step test fault x f y e h = ap (λ b. require b fault x >>= f) e ∙ h

pub required : {A : Type 0} (test : Bool) (fault : TxFault) (x : A) → test ≡ true → require test fault x ≡ Ok x
required test fault x e = ap (λ b. require b fault x) e

pub assoc3 : (a b c r : List ℕ) → a ++ b ++ c ++ r ≡ a ++ (b ++ (c ++ r))
assoc3 a b c r = append_assoc (a ++ b) c r ∙ append_assoc a b (c ++ r)

pub assoc4 : (a b c d r : List ℕ) → a ++ b ++ c ++ d ++ r ≡ a ++ (b ++ (c ++ (d ++ r)))
assoc4 a b c d r = append_assoc (a ++ b ++ c) d r ∙ assoc3 a b c (d ++ r)

-- ---- entries

abbrev pub IsGood : Option Token → TokenEntry → Type 0
IsGood before e = (entry_fault before e ≡ None) × (length e.0.policy ≡ 32)

pub byte_was : (bytes : List ℕ) (x : ℕ × List ℕ) → IsBytes bytes → byte_read bytes ≡ Ok x → Takes bytes (x.0 ∷ []) x.1
unfolding byte_read
byte_was [] x fits e = absurd Prim.cc
byte_was (b ∷ bytes) x fits e = subst (λ (y : ℕ × List ℕ). Takes (b ∷ bytes) (y.0 ∷ []) y.1) (ok_is (b, bytes) x e) (record { parts = refl; rest_fits = IsBytes-rest b bytes fits })

pub byte_again : (b : ℕ) (bytes : List ℕ) → byte_read (b ∷ bytes) ≡ Ok (b, bytes)
unfolding byte_read
byte_again b bytes = refl

put_together : (bytes policy : List ℕ) (r1 : List ℕ) (len : ℕ) (r2 name r3 : List ℕ) (n : ℤ) (r4 : List ℕ) → Takes bytes policy r1 → Takes r1 (len ∷ []) r2 → Takes r2 name r3 → length name ≡ len → Takes r3 (to_be_bytes w64 (cast_unsigned w64 n)) r4 → Takes bytes (entry_bytes (record { policy = policy; name = name }, n)) r4
unfolding entry_bytes
put_together bytes policy r1 len r2 name r3 n r4 p l m is q =
    Takes-then bytes (policy ++ length name ∷ name) r3 (to_be_bytes w64 (cast_unsigned w64 n)) r4
    (Takes-then bytes policy r1 (length name ∷ name) r3 p
    (Takes-then r1 (length name ∷ []) r2 name r3 (subst (λ (k : ℕ). Takes r1 (k ∷ []) r2) (sym is) l) m)) q

pub entry_was : IsSound entry_read entry_bytes IsGood
unfolding entry_read
entry_was before bytes x fits e =
    let policy = bind_ok (field (run_at 32 bytes)) _ x e in
    let p = run_takes 32 bytes policy.0.0 policy.0.1 fits (or_fault_ok Truncated _ policy.0 policy.1) in
    let len = bind_ok (byte_read policy.0.1) _ x policy.2 in
    let l = byte_was policy.0.1 len.0 p.0.rest_fits len.1 in
    let short = bind_ok (require (not (nat_lt 32 len.0.0)) BadBundle len.0) _ x len.2 in
    let s = require_ok (not (nat_lt 32 len.0.0)) BadBundle len.0 short.0 short.1 in
    let ls = subst (λ (y : ℕ × List ℕ). Takes policy.0.1 (y.0 ∷ []) y.1) s.1 l in
    let name = bind_ok (field (run_at short.0.0 short.0.1)) _ x short.2 in
    let m = run_takes short.0.0 short.0.1 name.0.0 name.0.1 ls.rest_fits (or_fault_ok Truncated _ name.0 name.1) in
    let quantity = bind_ok (field (number_at name.0.1)) _ x name.2 in
    let q = number_takes name.0.1 quantity.0.0 quantity.0.1 m.0.rest_fits (or_fault_ok Truncated _ quantity.0 quantity.1) in
    let entry : TokenEntry × List ℕ = ((record { policy = policy.0.0; name = name.0.0 }, quantity.0.0), quantity.0.1) in
    let r = require_ok (is_none (entry_fault before entry.0)) BadBundle entry x quantity.2 in
    subst (λ (y : TokenEntry × List ℕ). Takes bytes (entry_bytes y.0) y.1 × IsGood before y.0) r.1
    (put_together bytes policy.0.0 policy.0.1 short.0.0 short.0.1 name.0.0 name.0.1 quantity.0.0 quantity.0.1 p.0 ls m.0 m.1 q.0, (none_is _ r.0, p.1))

signed : (n : ℤ) → IsWithin (2 ^ 63 - 1) n → FitsSigned w64 n
signed n h = let a = h.least in let b = h.greatest in grind (arith, ints)

is_short : (n : ℕ) → n ≤ 32 → not (nat_lt 32 n) ≡ true
is_short n le = grind (arith)

is_none_of : {A : Type 0} (o : Option A) → o ≡ None → is_none o ≡ true
is_none_of o e = ap is_none e

pub entry_again : IsComplete entry_read entry_bytes IsGood
unfolding entry_read entry_bytes
entry_again before e rest good =
    let f = fine before e good.0 in
    let tail : List ℕ = to_be_bytes w64 (cast_unsigned w64 e.1) ++ rest in
    ap (λ (bytes : List ℕ). entry_read before bytes) (assoc3 e.0.policy (length e.0.name ∷ e.0.name) (to_be_bytes w64 (cast_unsigned w64 e.1)) rest)
    ∙ field_step (run_at 32 (e.0.policy ++ (length e.0.name ∷ (e.0.name ++ tail)))) _ (e.0.policy, length e.0.name ∷ (e.0.name ++ tail)) _ (array_again 32 e.0.policy (length e.0.name ∷ (e.0.name ++ tail)) good.1)
    (step (byte_read (length e.0.name ∷ (e.0.name ++ tail))) _ (length e.0.name, e.0.name ++ tail) _ (byte_again (length e.0.name) (e.0.name ++ tail))
    (require_step (not (nat_lt 32 (length e.0.name))) BadBundle (length e.0.name, e.0.name ++ tail) _ _ (is_short (length e.0.name) f.entry.short)
    (field_step (run_at (length e.0.name) (e.0.name ++ tail)) _ (e.0.name, tail) _ (run_again e.0.name tail)
    (field_step (number_at tail) _ (e.1, rest) _ (number_again e.1 rest (signed e.1 f.entry.within))
    (required (is_none (entry_fault before e)) BadBundle (e, rest) (is_none_of (entry_fault before e) good.0))))))

-- ---- bundles

each_faultless : (before : Option Token) (es : List TokenEntry) → EachAfter (λ e. e.0) IsGood before es → fault_after before es ≡ None
each_faultless before [] each = refl
each_faultless before (e ∷ es) each = ap (λ (o : Option BundleFault). option_or o (fault_after (Some e.0) es)) each.0.0 ∙ each_faultless (Some e.0) es each.1

each_policy : (before : Option Token) (es : List TokenEntry) → EachAfter (λ e. e.0) IsGood before es → AllByRecursion (λ e. length e.0.policy ≡ 32) es
each_policy before [] each = tt
each_policy before (e ∷ es) each = (each.0.1, each_policy (Some e.0) es each.1)

each_good : (before : Option Token) (es : List TokenEntry) → fault_after before es ≡ None → AllByRecursion (λ e. length e.0.policy ≡ 32) es → EachAfter (λ e. e.0) IsGood before es
each_good before [] none all = tt
each_good before (e ∷ es) none all =
    let n = first_none (entry_fault before e) (fault_after (Some e.0) es) none in
    ((n.0, all.0), each_good (Some e.0) es n.1 all.1)

pub bundle_was : (bytes : List ℕ) (x : List TokenEntry × List ℕ) → IsBytes bytes → bundle_read bytes ≡ Ok x → Takes bytes (bundle_bytes x.0) x.1 × IsValue x.0
unfolding bundle_read bundle_bytes
bundle_was bytes x fits e =
    let c = counted_were (λ e. e.0) entry_read entry_bytes IsGood entry_was bytes x fits e in
    (c.takes, record { bundle = bundle_from_none x.0 (each_faultless None x.0 c.good); few = c.few; policies = each_policy None x.0 c.good })

pub bundle_again : (es : List TokenEntry) (rest : List ℕ) → IsValue es → bundle_read (bundle_bytes es ++ rest) ≡ Ok (es, rest)
unfolding bundle_read bundle_bytes
bundle_again es rest is = counted_again (λ e. e.0) entry_read entry_bytes IsGood entry_again es rest is.few (each_good None es (none_from_bundle es is.bundle) is.policies)
