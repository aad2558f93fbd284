-- A field that is read is the one that was written, and a field that was written is read again.
use Rattle.std.proofs.Common.{◌≡◌, ℕ, ◌^◌, ◌<◌, ◌≤◌, ltb, false, List, ◌++◌, length, take, drop, Option, Some, None, refl, sym, ap, subst, ◌∙◌, arith}
use Rattle.std.specs.Prelude.{ℤ}
use Rattle.std.specs.Option.{option_and_then}
use Rattle.std.specs.Int.{w16, w64, from_be_bytes, to_be_bytes, cast_signed, cast_unsigned}
use Rattle.std.specs.Int.RustNames.{FitsSigned}
use Rattle.std.proofs.lemmas.Bool.{ltb-false, le-ltb}
use Rattle.std.proofs.lemmas.List.{take_at, drop_at, take-append-drop, length-append, length-take}
use Rattle.std.proofs.lemmas.Nat.{be_bytes_2, be_bytes_8, from_be_bytes-to_be_bytes_2, from_be_bytes-to_be_bytes_8}
use Rattle.std.proofs.lemmas.Int.{of_z-to_z, to_z-of_z, ints}
use Rattle.mp_bytes.specs.Fields.{number_at, unsigned_at, count_at, run_at, sized_at}
use Rattle.mp_bytes.proofs.Bytes.{IsBytes, IsBytes-drop, IsBytes-take, guard_some, Takes, Takes-then}

-- ---- runs

pub run_takes : (n : ℕ) (bytes run rest : List ℕ) → IsBytes bytes → run_at n bytes ≡ Some (run, rest) → Takes bytes run rest × (length run ≡ n)
unfolding run_at
run_takes n bytes run rest fits e =
    let g = guard_some (ltb (length bytes) n) (take n bytes, drop n bytes) (run, rest) e in
    let long : n ≤ length bytes = ltb-false _ _ g.0 in
    let run-is : take n bytes ≡ run = ap (λ (p : List ℕ × List ℕ). p.0) g.1 in
    let rest-is : drop n bytes ≡ rest = ap (λ (p : List ℕ × List ℕ). p.1) g.1 in
    (record { parts = rw (← run-is, ← rest-is) (sym (take-append-drop n bytes)); rest_fits = rw (← rest-is) (IsBytes-drop n bytes fits) }, rw (← run-is) (omega (arith, length-take n bytes)))

pub run_again : (run rest : List ℕ) → run_at (length run) (run ++ rest) ≡ Some (run, rest)
unfolding run_at
run_again run rest =
    let long : ltb (length (run ++ rest)) (length run) ≡ false = le-ltb _ _ (omega (arith, length-append run rest)) in
    rw (long, take_at run rest (length run) refl, drop_at run rest (length run) refl) refl

joined : (text : List ℕ) (n : ℕ) (bytes rest : List ℕ) → text ≡ take n bytes → drop n bytes ≡ rest → bytes ≡ text ++ rest
joined text n bytes rest front behind = rw (front, ← behind) (sym (take-append-drop n bytes))

-- ---- counts

below16 : (bytes : List ℕ) → IsBytes bytes → from_be_bytes w16 bytes < 2 ^ 16
below16 bytes fits = omega (arith, fits 0, fits 1)

pub count_takes : (bytes : List ℕ) (n : ℕ) (rest : List ℕ) → IsBytes bytes → count_at bytes ≡ Some (n, rest) → Takes bytes (to_be_bytes w16 n) rest × (n < 2 ^ 16)
unfolding count_at
count_takes bytes n rest fits e =
    let g = guard_some (ltb (length bytes) 2) (from_be_bytes w16 (take 2 bytes), drop 2 bytes) (n, rest) e in
    let long : 2 ≤ length bytes = ltb-false _ _ g.0 in
    let n-is : from_be_bytes w16 (take 2 bytes) ≡ n = ap (λ (p : ℕ × List ℕ). p.0) g.1 in
    let rest-is : drop 2 bytes ≡ rest = ap (λ (p : ℕ × List ℕ). p.1) g.1 in
    let front : to_be_bytes w16 n ≡ take 2 bytes = be_bytes_2 (take 2 bytes) n (omega (arith, length-take 2 bytes)) (IsBytes-take 2 bytes fits) (sym n-is) in
    (record { parts = joined (to_be_bytes w16 n) 2 bytes rest front rest-is; rest_fits = rw (← rest-is) (IsBytes-drop 2 bytes fits) }, rw (← n-is) (below16 (take 2 bytes) (IsBytes-take 2 bytes fits)))

count_is : (text rest : List ℕ) (n : ℕ) → length text ≡ 2 → from_be_bytes w16 text ≡ n → count_at (text ++ rest) ≡ Some (n, rest)
unfolding count_at
count_is text rest n len e =
    let long : ltb (length (text ++ rest)) 2 ≡ false = le-ltb _ _ (omega (arith, length-append text rest)) in
    rw (long, take_at text rest 2 len, drop_at text rest 2 len, e) refl

pub count_again : (n : ℕ) (rest : List ℕ) → n < 2 ^ 16 → count_at (to_be_bytes w16 n ++ rest) ≡ Some (n, rest)
count_again n rest lt = count_is (to_be_bytes w16 n) rest n refl (from_be_bytes-to_be_bytes_2 n lt)

-- ---- counted bytes

and_then_is : {A B : Type 0} (f : A → Option B) (o : Option A) (y : B) → option_and_then f o ≡ Some y → (x : A) × (o ≡ Some x) × (f x ≡ Some y)
and_then_is f None y e = absurd cc
and_then_is f (Some x) y e = (x, refl, e)

pub sized_takes : (bytes run rest : List ℕ) → IsBytes bytes → sized_at bytes ≡ Some (run, rest) → Takes bytes (to_be_bytes w16 (length run) ++ run) rest × (length run < 2 ^ 16)
unfolding sized_at
sized_takes bytes run rest fits e =
    let a = and_then_is (λ len. run_at len.0 len.1) (count_at bytes) (run, rest) e in
    let t = count_takes bytes a.0.0 a.0.1 fits a.1 in
    let r = run_takes a.0.0 a.0.1 run rest t.0.rest_fits a.2 in
    let both : Takes bytes (to_be_bytes w16 a.0.0 ++ run) rest = Takes-then bytes (to_be_bytes w16 a.0.0) a.0.1 run rest t.0 r.0 in
    (subst (λ (k : ℕ). Takes bytes (to_be_bytes w16 k ++ run) rest) (sym r.1) both, omega (arith, t.1, r.1))

pub sized_again : (run rest : List ℕ) → length run < 2 ^ 16 → sized_at ((to_be_bytes w16 (length run) ++ run) ++ rest) ≡ Some (run, rest)
unfolding sized_at
sized_again run rest few =
    ap (option_and_then (λ len. run_at len.0 len.1)) (count_again (length run) (run ++ rest) few) ∙ run_again run rest

-- ---- numbers

below64 : (bytes : List ℕ) → IsBytes bytes → from_be_bytes w64 bytes < 2 ^ 64
below64 bytes fits = omega (arith, fits 0, fits 1, fits 2, fits 3, fits 4, fits 5, fits 6, fits 7)

signed-fits : (n : ℕ) → n < 2 ^ 64 → FitsSigned w64 (cast_signed w64 n)
signed-fits n lt = search (arith, ints)

unsigned-below : (z : ℤ) → FitsSigned w64 z → cast_unsigned w64 z < 2 ^ 64
unsigned-below z fits = omega (arith, ints)

pub number_takes : (bytes : List ℕ) (n : ℤ) (rest : List ℕ) → IsBytes bytes → number_at bytes ≡ Some (n, rest) → Takes bytes (to_be_bytes w64 (cast_unsigned w64 n)) rest × FitsSigned w64 n
unfolding number_at
number_takes bytes n rest fits e =
    let m = from_be_bytes w64 (take 8 bytes) in
    let g = guard_some (ltb (length bytes) 8) (cast_signed w64 (from_be_bytes w64 (take 8 bytes)), drop 8 bytes) (n, rest) e in
    let long : 8 ≤ length bytes = ltb-false _ _ g.0 in
    let n-is : cast_signed w64 (from_be_bytes w64 (take 8 bytes)) ≡ n = ap (λ (p : ℤ × List ℕ). p.0) g.1 in
    let rest-is : drop 8 bytes ≡ rest = ap (λ (p : ℤ × List ℕ). p.1) g.1 in
    let below = below64 (take 8 bytes) (IsBytes-take 8 bytes fits) in
    let back : cast_unsigned w64 n ≡ from_be_bytes w64 (take 8 bytes) = ap (cast_unsigned w64) (sym n-is) ∙ of_z-to_z w64 (from_be_bytes w64 (take 8 bytes)) below in
    let front : to_be_bytes w64 (cast_unsigned w64 n) ≡ take 8 bytes = be_bytes_8 (take 8 bytes) (cast_unsigned w64 n) (omega (arith, length-take 8 bytes)) (IsBytes-take 8 bytes fits) back in
    (record { parts = joined (to_be_bytes w64 (cast_unsigned w64 n)) 8 bytes rest front rest-is; rest_fits = rw (← rest-is) (IsBytes-drop 8 bytes fits) }, rw (← n-is) (signed-fits (from_be_bytes w64 (take 8 bytes)) below))

number_is : (text rest : List ℕ) (n : ℤ) → length text ≡ 8 → cast_signed w64 (from_be_bytes w64 text) ≡ n → number_at (text ++ rest) ≡ Some (n, rest)
unfolding number_at
number_is text rest n len e =
    let long : ltb (length (text ++ rest)) 8 ≡ false = le-ltb _ _ (omega (arith, length-append text rest)) in
    rw (long, take_at text rest 8 len, drop_at text rest 8 len, e) refl

pub number_again : (n : ℤ) (rest : List ℕ) → FitsSigned w64 n → number_at (to_be_bytes w64 (cast_unsigned w64 n) ++ rest) ≡ Some (n, rest)
number_again n rest fits =
    number_is (to_be_bytes w64 (cast_unsigned w64 n)) rest n refl (ap (cast_signed w64) (from_be_bytes-to_be_bytes_8 (cast_unsigned w64 n) (unsigned-below n fits)) ∙ to_z-of_z w64 n fits)

pub unsigned_takes : (bytes : List ℕ) (n : ℕ) (rest : List ℕ) → IsBytes bytes → unsigned_at bytes ≡ Some (n, rest) → Takes bytes (to_be_bytes w64 n) rest × (n < 2 ^ 64)
unfolding unsigned_at
unsigned_takes bytes n rest fits e =
    let g = guard_some (ltb (length bytes) 8) (from_be_bytes w64 (take 8 bytes), drop 8 bytes) (n, rest) e in
    let long : 8 ≤ length bytes = ltb-false _ _ g.0 in
    let n-is : from_be_bytes w64 (take 8 bytes) ≡ n = ap (λ (p : ℕ × List ℕ). p.0) g.1 in
    let rest-is : drop 8 bytes ≡ rest = ap (λ (p : ℕ × List ℕ). p.1) g.1 in
    let front : to_be_bytes w64 n ≡ take 8 bytes = be_bytes_8 (take 8 bytes) n (omega (arith, length-take 8 bytes)) (IsBytes-take 8 bytes fits) (sym n-is) in
    (record { parts = joined (to_be_bytes w64 n) 8 bytes rest front rest-is; rest_fits = rw (← rest-is) (IsBytes-drop 8 bytes fits) }, rw (← n-is) (below64 (take 8 bytes) (IsBytes-take 8 bytes fits)))

unsigned_is : (text rest : List ℕ) (n : ℕ) → length text ≡ 8 → from_be_bytes w64 text ≡ n → unsigned_at (text ++ rest) ≡ Some (n, rest)
unfolding unsigned_at
unsigned_is text rest n len e =
    let long : ltb (length (text ++ rest)) 8 ≡ false = le-ltb _ _ (omega (arith, length-append text rest)) in
    rw (long, take_at text rest 8 len, drop_at text rest 8 len, e) refl

pub unsigned_again : (n : ℕ) (rest : List ℕ) → n < 2 ^ 64 → unsigned_at (to_be_bytes w64 n ++ rest) ≡ Some (n, rest)
unsigned_again n rest lt = unsigned_is (to_be_bytes w64 n) rest n refl (from_be_bytes-to_be_bytes_8 n lt)

-- a prefix of bytes, and what follows it, are bytes
pub IsBytes-front : (front rest : List ℕ) → IsBytes (front ++ rest) → IsBytes front
IsBytes-front front rest fits = subst IsBytes (take_at front rest (length front) refl) (IsBytes-take (length front) (front ++ rest) fits)

pub IsBytes-behind : (front rest : List ℕ) → IsBytes (front ++ rest) → IsBytes rest
IsBytes-behind front rest fits = subst IsBytes (drop_at front rest (length front) refl) (IsBytes-drop (length front) (front ++ rest) fits)

-- the bytes of a counted run are bytes
pub sized_fits : (bytes run rest : List ℕ) → IsBytes bytes → Takes bytes (to_be_bytes w16 (length run) ++ run) rest → IsBytes run
sized_fits bytes run rest fits t =
    IsBytes-behind (to_be_bytes w16 (length run)) run (IsBytes-front (to_be_bytes w16 (length run) ++ run) rest (subst IsBytes t.parts fits))
