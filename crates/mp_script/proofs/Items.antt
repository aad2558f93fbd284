-- Reading one datum after another.
use Rattle.std.proofs.Common.{arith, ◌≡◌, ℕ, suc, ◌+◌, ◌-◌, ◌<◌, List, refl, sym, ap, ◌∙◌}
use Rattle.std.specs.Prelude.{Result, Ok, Err}
use Rattle.mp_script.specs.declared.fault.DataFault.{DataFault}
use Rattle.mp_bytes.specs.Reading.{◌>>=◌, rest_of}
use Rattle.mp_script.specs.Datum.{Datum, Items, item}
use Rattle.mp_script.specs.DataReading.{Read, items_read}

after-more : (d : Datum) (more : Read Items) → rest_of (more >>= λ m. Ok (item d m.0, m.1)) ≡ rest_of more
after-more d (Ok m) = refl
after-more d (Err e) = refl

after-first : (read : List ℕ → Read Datum) (n : ℕ) (first : Read Datum) → rest_of (first >>= λ f. items_read read n f.1 >>= λ more. Ok (item f.0 more.0, more.1)) ≡ (rest_of first >>= λ rest. rest_of (items_read read n rest))
after-first read n (Ok f) = after-more f.0 (items_read read n f.1)
after-first read n (Err e) = refl

-- the first datum, and then the others
pub rest-of-items : (read : List ℕ → Read Datum) (n : ℕ) (bytes : List ℕ) → rest_of (items_read read (suc n) bytes) ≡ (rest_of (read bytes) >>= λ rest. rest_of (items_read read n rest))
rest-of-items read n bytes = after-first read n (read bytes)

one-less : (n k : ℕ) → k < n → n - k ≡ suc (n - (k + 1))
one-less n k h = omega arith

-- after one of the remaining data
pub next-item : (read : List ℕ → Read Datum) (n k : ℕ) (bytes : List ℕ) (total first : Result (List ℕ) DataFault) → k < n → rest_of (items_read read (n - k) bytes) ≡ total → first ≡ rest_of (read bytes) → (first >>= λ rest. rest_of (items_read read (n - (k + 1)) rest)) ≡ total
next-item read n k bytes total first h e f =
    ap (λ r. r >>= λ rest. rest_of (items_read read (n - (k + 1)) rest)) f ∙ sym (rest-of-items read (n - (k + 1)) bytes) ∙ ap (λ m. rest_of (items_read read m bytes)) (sym (one-less n k h)) ∙ e
