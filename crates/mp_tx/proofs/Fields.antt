-- Fields of a transaction that are read are the ones that were written, and they are read again.
use Rattle.std.proofs.Common.{◌≡◌, ℕ, ◌<◌, ◌≤◌, ◌^◌, arith, Bool, true, List, ◌++◌, length, Option, Some, Result, Ok, Err, refl, ap, subst, ◌∙◌, append_assoc, nat_lt}
use Rattle.std.specs.Prelude.{not, is_ok}
use Rattle.std.specs.Int.{w16, w64, to_be_bytes}
use Rattle.mp_bytes.specs.Spelling.{sized}
use Rattle.mp_bytes.specs.Fields.{unsigned_at, count_at, run_at, sized_at}
use Rattle.mp_bytes.specs.Reading.{◌>>=◌}
use Rattle.mp_bytes.proofs.Bytes.{IsBytes, Takes, Takes-then, bind_ok, ok_is, or_fault_ok}
use Rattle.mp_bytes.proofs.FieldLaws.{run_takes, run_again, count_takes, count_again, sized_takes, sized_again, sized_fits, unsigned_takes, unsigned_again}
use Rattle.mp_script.specs.Datum.{IsDatum}
use Rattle.mp_script.specs.DataReading.{datum_of}
use Rattle.mp_script.specs.Script.{IsScript}
use Rattle.mp_script.specs.ScriptReading.{script_of}
use Rattle.mp_script.proofs.DataLaws as datums
use Rattle.mp_script.proofs.ScriptLaws as scripts
use Rattle.mp_tx.specs.declared.fault.TxFault.TheVariants.{Truncated, BadScript, BadData, BadInterval}
use Rattle.mp_tx.specs.declared.reference.OutRef.{OutRef}
use Rattle.mp_tx.specs.Spelling.{ref_bytes, interval_bytes}
use Rattle.mp_tx.specs.Parts.{IsRef, IsSized}
use Rattle.mp_tx.specs.Reading.{field, require, ref_read, script_read, data_read, interval_read}
use Rattle.mp_tx.proofs.Entries.{require_ok}
use Rattle.mp_tx.proofs.Wholes.{script_is_ok, datum_is_ok}

-- n bytes are read again
pub array_again : (n : ℕ) (run rest : List ℕ) → length run ≡ n → run_at n (run ++ rest) ≡ Some (run, rest)
array_again n run rest len = subst (λ (k : ℕ). run_at k (run ++ rest) ≡ Some (run, rest)) len (run_again run rest)

-- ---- references

pub ref_was : (bytes : List ℕ) (x : OutRef × List ℕ) → IsBytes bytes → ref_read bytes ≡ Ok x → Takes bytes (ref_bytes x.0) x.1 × IsRef x.0
unfolding ref_read ref_bytes
ref_was bytes x fits e =
    let id = bind_ok (field (run_at 32 bytes)) _ x e in
    let index = bind_ok (field (count_at id.0.1)) _ x id.2 in
    let i = run_takes 32 bytes id.0.0 id.0.1 fits (or_fault_ok Truncated _ id.0 id.1) in
    let k = count_takes id.0.1 index.0.0 index.0.1 i.0.rest_fits (or_fault_ok Truncated _ index.0 index.1) in
    subst (λ (y : OutRef × List ℕ). Takes bytes (ref_bytes y.0) y.1 × IsRef y.0) (ok_is _ x index.2)
    (Takes-then bytes id.0.0 id.0.1 (to_be_bytes w16 index.0.0) index.0.1 i.0 k.0, record { id = i.1; index = k.1 })

pub ref_again : (r : OutRef) (rest : List ℕ) → IsRef r → ref_read (ref_bytes r ++ rest) ≡ Ok (r, rest)
unfolding ref_read ref_bytes
ref_again r rest is =
    ap (λ (bytes : List ℕ). ref_read bytes) (append_assoc r.id (to_be_bytes w16 r.index) rest)
    ∙ ap (λ (o : Option (List ℕ × List ℕ)). field o >>= λ id. field (count_at id.1) >>= λ index. Ok (record { id = id.0; index = index.0 }, index.1)) (array_again 32 r.id (to_be_bytes w16 r.index ++ rest) is.id)
    ∙ ap (λ (o : Option (ℕ × List ℕ)). field o >>= λ index. Ok (record { id = r.id; index = index.0 }, index.1)) (count_again r.index rest is.index)

-- ---- scripts and data

ok_of : {A E : Type 0} (r : Result A E) → is_ok r ≡ true → (x : A) × (r ≡ Ok x)
ok_of (Ok x) e = (x, refl)
ok_of (Err d) e = absurd Prim.cc

pub script_was : (bytes : List ℕ) (x : List ℕ × List ℕ) → IsBytes bytes → script_read bytes ≡ Ok x → Takes bytes (sized x.0) x.1 × IsSized IsScript x.0
unfolding script_read
script_was bytes x fits e =
    let text = bind_ok (field (sized_at bytes)) _ x e in
    let t = sized_takes bytes text.0.0 text.0.1 fits (or_fault_ok Truncated _ text.0 text.1) in
    let r = require_ok (is_ok (script_of text.0.0)) BadScript text.0 x text.2 in
    let tree = ok_of (script_of text.0.0) r.0 in
    let whole : IsScript text.0.0 = (tree.0, scripts.read_is_spelled text.0.0 tree.0 (sized_fits bytes text.0.0 text.0.1 fits t.0) tree.1) in
    subst (λ (y : List ℕ × List ℕ). Takes bytes (sized y.0) y.1 × IsSized IsScript y.0) r.1 (t.0, record { whole = whole; short = t.1 })

pub script_again : (text rest : List ℕ) → IsSized IsScript text → script_read (sized text ++ rest) ≡ Ok (text, rest)
unfolding script_read
script_again text rest is =
    ap (λ (o : Option (List ℕ × List ℕ)). field o >>= λ t. require (is_ok (script_of t.0)) BadScript t) (sized_again text rest is.short)
    ∙ ap (λ (b : Bool). require b BadScript (text, rest)) (script_is_ok text is.whole)

pub data_was : (bytes : List ℕ) (x : List ℕ × List ℕ) → IsBytes bytes → data_read bytes ≡ Ok x → Takes bytes (sized x.0) x.1 × IsSized IsDatum x.0
unfolding data_read
data_was bytes x fits e =
    let text = bind_ok (field (sized_at bytes)) _ x e in
    let t = sized_takes bytes text.0.0 text.0.1 fits (or_fault_ok Truncated _ text.0 text.1) in
    let r = require_ok (is_ok (datum_of text.0.0)) BadData text.0 x text.2 in
    let datum = ok_of (datum_of text.0.0) r.0 in
    let whole : IsDatum text.0.0 = (datum.0, datums.read_is_spelled text.0.0 datum.0 (sized_fits bytes text.0.0 text.0.1 fits t.0) datum.1) in
    subst (λ (y : List ℕ × List ℕ). Takes bytes (sized y.0) y.1 × IsSized IsDatum y.0) r.1 (t.0, record { whole = whole; short = t.1 })

pub data_again : (text rest : List ℕ) → IsSized IsDatum text → data_read (sized text ++ rest) ≡ Ok (text, rest)
unfolding data_read
data_again text rest is =
    ap (λ (o : Option (List ℕ × List ℕ)). field o >>= λ t. require (is_ok (datum_of t.0)) BadData t) (sized_again text rest is.short)
    ∙ ap (λ (b : Bool). require b BadData (text, rest)) (datum_is_ok text is.whole)

-- ---- intervals

pub record IsInterval (i : ℕ × ℕ) : Type 0 where
  pub from : i.0 < 2 ^ 64
  pub to : i.1 < 2 ^ 64
  pub rising : i.0 ≤ i.1

not_below : (a b : ℕ) → not (nat_lt b a) ≡ true → a ≤ b
not_below a b e = grind (arith)

is_not_below : (a b : ℕ) → a ≤ b → not (nat_lt b a) ≡ true
is_not_below a b le = grind (arith)

pub interval_was : (bytes : List ℕ) (x : (ℕ × ℕ) × List ℕ) → IsBytes bytes → interval_read bytes ≡ Ok x → Takes bytes (interval_bytes x.0) x.1 × IsInterval x.0
unfolding interval_read interval_bytes
interval_was bytes x fits e =
    let from = bind_ok (field (unsigned_at bytes)) _ x e in
    let to = bind_ok (field (unsigned_at from.0.1)) _ x from.2 in
    let f = unsigned_takes bytes from.0.0 from.0.1 fits (or_fault_ok Truncated _ from.0 from.1) in
    let t = unsigned_takes from.0.1 to.0.0 to.0.1 f.0.rest_fits (or_fault_ok Truncated _ to.0 to.1) in
    let r = require_ok (not (nat_lt to.0.0 from.0.0)) BadInterval ((from.0.0, to.0.0), to.0.1) x to.2 in
    subst (λ (y : (ℕ × ℕ) × List ℕ). Takes bytes (interval_bytes y.0) y.1 × IsInterval y.0) r.1
    (Takes-then bytes (to_be_bytes w64 from.0.0) from.0.1 (to_be_bytes w64 to.0.0) to.0.1 f.0 t.0, record { from = f.1; to = t.1; rising = not_below from.0.0 to.0.0 r.0 })

pub interval_again : (i : ℕ × ℕ) (rest : List ℕ) → IsInterval i → interval_read (interval_bytes i ++ rest) ≡ Ok (i, rest)
unfolding interval_read interval_bytes
interval_again i rest is =
    ap (λ (bytes : List ℕ). interval_read bytes) (append_assoc (to_be_bytes w64 i.0) (to_be_bytes w64 i.1) rest)
    ∙ ap (λ (o : Option (ℕ × List ℕ)). field o >>= λ from. field (unsigned_at from.1) >>= λ to. require (not (nat_lt to.0 from.0)) BadInterval ((from.0, to.0), to.1)) (unsigned_again i.0 (to_be_bytes w64 i.1 ++ rest) is.from)
    ∙ ap (λ (o : Option (ℕ × List ℕ)). field o >>= λ to. require (not (nat_lt to.0 i.0)) BadInterval ((i.0, to.0), to.1)) (unsigned_again i.1 rest is.to)
    ∙ ap (λ (b : Bool). require b BadInterval ((i.0, i.1), rest)) (is_not_below i.0 i.1 is.rising)
