-- Entries that are read make a bundle.
use Rattle.std.proofs.Common.{◌≡◌, ℕ, zero, suc, Bool, true, false, List, Option, None, Some, Ok, refl, ap, subst, ◌∙◌, nat_lt}
use Rattle.std.specs.Prelude.{not, is_none}
use Rattle.std.specs.Option.{option_or}
use Rattle.mp_bundle.specs.declared.token.Token.{Token}
use Rattle.mp_bundle.specs.declared.fault.BundleFault.{BundleFault}
use Rattle.mp_bundle.specs.Bundle.{TokenEntry}
use Rattle.mp_bundle.specs.BundleFault.{entry_fault, fault_after}
use Rattle.mp_bytes.specs.Fields.{number_at, run_at}
use Rattle.mp_bytes.proofs.Bytes.{bind_ok, ok_is}
use Rattle.mp_tx.specs.declared.fault.TxFault.{TxFault}
use Rattle.mp_tx.specs.declared.fault.TxFault.TheVariants.{BadBundle}
use Rattle.mp_tx.specs.Reading.{require, field, byte_read, items_read, entry_read}

-- what was required holds
pub require_ok : {A : Type 0} (test : Bool) (fault : TxFault) (x y : A) → require test fault x ≡ Ok y → (test ≡ true) × (x ≡ y)
require_ok true fault x y e = (refl, Prim.cc)
require_ok false fault x y e = absurd Prim.cc

pub none_is : {A : Type 0} (o : Option A) → is_none o ≡ true → o ≡ None
none_is None e = refl
none_is (Some x) e = absurd Prim.cc

pub no_fault : (before : Option Token) (bytes : List ℕ) (x : TokenEntry × List ℕ) → entry_read before bytes ≡ Ok x → entry_fault before x.0 ≡ None
unfolding entry_read
no_fault before bytes x e =
    let policy = bind_ok (field (run_at 32 bytes)) _ x e in
    let len = bind_ok (byte_read policy.0.1) _ x policy.2 in
    let short = bind_ok (require (not (nat_lt 32 len.0.0)) BadBundle len.0) _ x len.2 in
    let name = bind_ok (field (run_at short.0.0 short.0.1)) _ x short.2 in
    let quantity = bind_ok (field (number_at name.0.1)) _ x name.2 in
    let r = require_ok _ BadBundle _ x quantity.2 in
    subst (λ (y : TokenEntry × List ℕ). entry_fault before y.0 ≡ None) r.1 (none_is _ r.0)

pub no_faults : (n : ℕ) (before : Option Token) (bytes : List ℕ) (x : List TokenEntry × List ℕ) → items_read (λ e. e.0) entry_read before n bytes ≡ Ok x → fault_after before x.0 ≡ None
no_faults zero before bytes x e = subst (λ (y : List TokenEntry × List ℕ). fault_after before y.0 ≡ None) (ok_is _ x e) refl
no_faults (suc n) before bytes x e =
    let first = bind_ok (entry_read before bytes) _ x e in
    let more = bind_ok (items_read (λ e. e.0) entry_read (Some first.0.0.0) n first.0.1) _ x first.2 in
    let fine = no_fault before bytes first.0 first.1 in
    let others = no_faults n (Some first.0.0.0) first.0.1 more.0 more.1 in
    subst (λ (y : List TokenEntry × List ℕ). fault_after before y.0 ≡ None) (ok_is _ x more.2) (ap (λ (o : Option BundleFault). option_or o (fault_after (Some first.0.0.0) more.0.0)) fine ∙ others)
