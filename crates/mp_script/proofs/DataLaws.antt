-- What is read has this spelling, and what has this spelling is read.
use Rattle.std.proofs.Common.{◌≡◌, ℕ, zero, suc, ◌^◌, ◌<◌, ◌≤◌, false, eqb, List, [], ◌∷◌, ◌++◌, length, Option, Result, Ok, Err, refl, sym, ap, subst, ◌∙◌, append_assoc, arith}
use Rattle.std.specs.Prelude.{ℤ}
use Rattle.std.specs.Int.{w16, w64, to_be_bytes, cast_unsigned}
use Rattle.std.proofs.lemmas.List.{append-nil}
use Rattle.mp_script.specs.declared.fault.DataFault.{DataFault}
use Rattle.mp_script.specs.declared.fault.DataFault.TheVariants.{NoMemory, Truncated, BadTag}
use Rattle.mp_bytes.specs.Fields.{number_at, count_at, sized_at}
use Rattle.mp_bytes.specs.Reading.{◌>>=◌, or_fault, rest_of}
use Rattle.mp_script.specs.Datum.{Datum, Items, number, octets, list, none, item, count, depth, deepest, Fits, AllFit, spelling, spellings, Spells, IsDatum}
use Rattle.mp_script.specs.DataReading.{Read, number_read, octets_read, items_read, list_read, datum_read, whole, datum_of}
use Rattle.mp_bytes.proofs.Bytes.{IsBytes, IsBytes-rest, bind_ok, or_fault_ok, ok_is, Takes, Takes-then, tagged}
use Rattle.mp_bytes.proofs.FieldLaws.{number_takes, number_again, count_takes, count_again, sized_takes, sized_again}

-- a datum that was read, up to a depth
pub record WasRead (most : ℕ) (bytes : List ℕ) (x : Datum × List ℕ) : Type 0 where
  pub takes : Takes bytes (spelling x.0) x.1
  pub fits : Fits x.0
  pub shallow : depth x.0 ≤ most

pub record WereRead (most n : ℕ) (bytes : List ℕ) (x : Items × List ℕ) : Type 0 where
  pub takes : Takes bytes (spellings x.0) x.1
  pub number : count x.0 ≡ n
  pub fit : AllFit x.0
  pub shallow : deepest x.0 ≤ most

abbrev Reads : (List ℕ → Read Datum) → ℕ → Type 0
Reads read most = (bytes : List ℕ) (x : Datum × List ℕ) → IsBytes bytes → read bytes ≡ Ok x → WasRead most bytes x

number_was : (most : ℕ) (bytes : List ℕ) (x : Datum × List ℕ) → IsBytes bytes → number_read bytes ≡ Ok x → WasRead (suc most) (1 ∷ bytes) x
unfolding number_read
number_was most bytes x fits e =
    let b = bind_ok (or_fault Truncated (number_at bytes)) (λ n. Ok (number n.0, n.1)) x e in
    let t = number_takes bytes b.0.0 b.0.1 fits (or_fault_ok Truncated (number_at bytes) b.0 b.1) in
    subst (λ (y : Datum × List ℕ). WasRead (suc most) (1 ∷ bytes) y) (ok_is (number b.0.0, b.0.1) x b.2) (record { takes = tagged 1 bytes _ _ t.0; fits = t.1; shallow = omega arith })

octets_was : (most : ℕ) (bytes : List ℕ) (x : Datum × List ℕ) → IsBytes bytes → octets_read bytes ≡ Ok x → WasRead (suc most) (2 ∷ bytes) x
unfolding octets_read
octets_was most bytes x fits e =
    let b = bind_ok (or_fault Truncated (sized_at bytes)) (λ run. Ok (octets run.0, run.1)) x e in
    let t = sized_takes bytes b.0.0 b.0.1 fits (or_fault_ok Truncated (sized_at bytes) b.0 b.1) in
    subst (λ (y : Datum × List ℕ). WasRead (suc most) (2 ∷ bytes) y) (ok_is (octets b.0.0, b.0.1) x b.2) (record { takes = tagged 2 bytes _ _ t.0; fits = t.1; shallow = omega arith })

items_were : (read : List ℕ → Read Datum) (most : ℕ) → Reads read most → (n : ℕ) (bytes : List ℕ) (x : Items × List ℕ) → IsBytes bytes → items_read read n bytes ≡ Ok x → WereRead most n bytes x
items_were read most one zero bytes x fits e =
    subst (λ (y : Items × List ℕ). WereRead most zero bytes y) (ok_is (none, bytes) x e) (record { takes = record { parts = refl; rest_fits = fits }; number = refl; fit = tt; shallow = omega arith })
items_were read most one (suc n) bytes x fits e =
    let a = bind_ok (read bytes) (λ first. items_read read n first.1 >>= λ more. Ok (item first.0 more.0, more.1)) x e in
    let b = bind_ok (items_read read n a.0.1) (λ more. Ok (item a.0.0 more.0, more.1)) x a.2 in
    let first = one bytes a.0 fits a.1 in
    let more = items_were read most one n a.0.1 b.0 first.takes.rest_fits b.1 in
    let both = Takes-then bytes (spelling a.0.0) a.0.1 (spellings b.0.0) b.0.1 first.takes more.takes in
    subst (λ (y : Items × List ℕ). WereRead most (suc n) bytes y) (ok_is (item a.0.0 b.0.0, b.0.1) x b.2) (record { takes = both; number = ap suc more.number; fit = (first.fits, more.fit); shallow = omega (arith, first.shallow, more.shallow) })

list_was : (read : List ℕ → Read Datum) (most : ℕ) → Reads read most → (bytes : List ℕ) (x : Datum × List ℕ) → IsBytes bytes → list_read read bytes ≡ Ok x → WasRead (suc most) (3 ∷ bytes) x
unfolding list_read
list_was read most one bytes x fits e =
    let a = bind_ok (or_fault Truncated (count_at bytes)) (λ n. items_read read n.0 n.1 >>= λ items. Ok (list items.0, items.1)) x e in
    let b = bind_ok (items_read read a.0.0 a.0.1) (λ items. Ok (list items.0, items.1)) x a.2 in
    let t = count_takes bytes a.0.0 a.0.1 fits (or_fault_ok Truncated (count_at bytes) a.0 a.1) in
    let r = items_were read most one a.0.0 a.0.1 b.0 t.0.rest_fits b.1 in
    let both = Takes-then bytes (to_be_bytes w16 a.0.0) a.0.1 (spellings b.0.0) b.0.1 t.0 r.takes in
    let same : Takes bytes (to_be_bytes w16 (count b.0.0) ++ spellings b.0.0) b.0.1 = subst (λ (k : ℕ). Takes bytes (to_be_bytes w16 k ++ spellings b.0.0) b.0.1) (sym r.number) both in
    subst (λ (y : Datum × List ℕ). WasRead (suc most) (3 ∷ bytes) y) (ok_is (list b.0.0, b.0.1) x b.2) (record { takes = tagged 3 bytes _ _ same; fits = (omega (arith, t.1, r.number), r.fit); shallow = omega (arith, r.shallow) })

no_value : {A : Type 0} (x : A) → Err BadTag ≡ Ok x → ⊥
no_value x e = absurd cc

by_tag : (most tag : ℕ) → Reads (datum_read most) most → (bytes : List ℕ) (x : Datum × List ℕ) → IsBytes bytes → datum_read (suc most) (tag ∷ bytes) ≡ Ok x → WasRead (suc most) (tag ∷ bytes) x
by_tag most zero one bytes x fits e = absurd cc
by_tag most (suc zero) one bytes x fits e = number_was most bytes x fits e
by_tag most (suc (suc zero)) one bytes x fits e = octets_was most bytes x fits e
by_tag most (suc (suc (suc zero))) one bytes x fits e = list_was (datum_read most) most one bytes x fits e
by_tag most (suc (suc (suc (suc tag)))) one bytes x fits e =
    let a : eqb (suc (suc (suc (suc tag)))) 1 ≡ false = grind arith in
    let b : eqb (suc (suc (suc (suc tag)))) 2 ≡ false = grind arith in
    let c : eqb (suc (suc (suc (suc tag)))) 3 ≡ false = grind arith in
    absurd (no_value x (sym (rw (a, b, c) refl) ∙ e))

pub datum_was : (most : ℕ) → Reads (datum_read most) most
datum_was zero [] x fits e = absurd cc
datum_was zero (tag ∷ bytes) x fits e = absurd cc
datum_was (suc most) [] x fits e = absurd cc
datum_was (suc most) (tag ∷ bytes) x fits e = by_tag most tag (datum_was most) bytes x (IsBytes-rest tag bytes fits) e

-- ---- and again

abbrev ReadsAgain : ℕ → Type 0
ReadsAgain most = (d : Datum) (rest : List ℕ) → Fits d → depth d ≤ most → datum_read most (spelling d ++ rest) ≡ Ok (d, rest)

items_again : (most : ℕ) → ReadsAgain most → (items : Items) (rest : List ℕ) → AllFit items → deepest items ≤ most → items_read (datum_read most) (count items) (spellings items ++ rest) ≡ Ok (items, rest)
items_again most one none rest fit shallow = refl
items_again most one (item d ds) rest fit shallow =
    let regrouped : spellings (item d ds) ++ rest ≡ spelling d ++ (spellings ds ++ rest) = append_assoc (spelling d) (spellings ds) rest in
    ap (items_read (datum_read most) (suc (count ds))) regrouped ∙ rw (one d (spellings ds ++ rest) fit.0 (omega (arith, shallow)), items_again most one ds rest fit.1 (omega (arith, shallow))) refl

octets_again : (bytes rest : List ℕ) → length bytes < 2 ^ 16 → octets_read ((to_be_bytes w16 (length bytes) ++ bytes) ++ rest) ≡ Ok (octets bytes, rest)
unfolding octets_read
octets_again bytes rest fits = ap (λ (o : Option (List ℕ × List ℕ)). or_fault Truncated o >>= λ run. Ok (octets run.0, run.1)) (sized_again bytes rest fits)

list_again : (most : ℕ) → ReadsAgain most → (items : Items) (rest : List ℕ) → count items < 2 ^ 16 → AllFit items → deepest items ≤ most → list_read (datum_read most) ((to_be_bytes w16 (count items) ++ spellings items) ++ rest) ≡ Ok (list items, rest)
unfolding list_read
list_again most one items rest few fit shallow =
    let n = count_again (count items) (spellings items ++ rest) few in
    ap (λ (o : Option (ℕ × List ℕ)). or_fault Truncated o >>= λ n. items_read (datum_read most) n.0 n.1 >>= λ items. Ok (list items.0, items.1)) n ∙ rw (items_again most one items rest fit shallow) refl

number_again' : (n : ℤ) (rest : List ℕ) → Fits (number n) → number_read (to_be_bytes w64 (cast_unsigned w64 n) ++ rest) ≡ Ok (number n, rest)
unfolding number_read
number_again' n rest fits = ap (λ (o : Option (ℤ × List ℕ)). or_fault Truncated o >>= λ n. Ok (number n.0, n.1)) (number_again n rest fits)

pub datum_again : (most : ℕ) → ReadsAgain most
datum_again zero (number n) rest fits shallow = absurd (omega (arith, shallow))
datum_again zero (octets bytes) rest fits shallow = absurd (omega (arith, shallow))
datum_again zero (list items) rest fits shallow = absurd (omega (arith, shallow))
datum_again (suc most) (number n) rest fits shallow = number_again' n rest fits
datum_again (suc most) (octets bytes) rest fits shallow = octets_again bytes rest fits
datum_again (suc most) (list items) rest fits shallow = list_again most (datum_again most) items rest fits.0 fits.1 (omega (arith, shallow))

-- ---- all of the bytes

whole_ok : (x : Datum × List ℕ) (d : Datum) → whole x ≡ Ok d → (x.1 ≡ []) × (x.0 ≡ d)
whole_ok (d', []) d e = (refl, ok_is d' d e)
whole_ok (d', b ∷ bytes) d e = absurd cc

pub read_is_spelled : (bytes : List ℕ) (d : Datum) → IsBytes bytes → datum_of bytes ≡ Ok d → Spells bytes d
read_is_spelled bytes d fits e =
    let a = bind_ok (datum_read 16 bytes) whole d e in
    let r = datum_was 16 bytes a.0 fits a.1 in
    let w = whole_ok a.0 d a.2 in
    subst (λ (y : Datum). Spells bytes y) w.1 (record { fits = r.fits; shallow = r.shallow; spelled = r.takes.parts ∙ ap (λ (t : List ℕ). spelling a.0.0 ++ t) w.0 ∙ append-nil (spelling a.0.0) })

pub spelled_is_read : (bytes : List ℕ) (d : Datum) → Spells bytes d → datum_of bytes ≡ Ok d
spelled_is_read bytes d s =
    let e : datum_read 16 bytes ≡ Ok (d, []) = ap (datum_read 16) (s.spelled ∙ sym (append-nil (spelling d))) ∙ datum_again 16 d [] s.fits s.shallow in
    ap (λ r. r >>= whole) e

ended : (r : Read Datum) → Ok [] ≡ rest_of r → (d : Datum) × ((r >>= whole) ≡ Ok d)
ended (Ok (d, [])) e = (d, refl)
ended (Ok (d, b ∷ bytes)) e = absurd cc
ended (Err f) e = absurd cc

-- if a walk ends at the end of the bytes, they are a datum
pub walked_is_datum : (bytes rest : List ℕ) → IsBytes bytes → Ok rest ≡ rest_of (datum_read 16 bytes) → length rest ≡ 0 → IsDatum bytes
walked_is_datum bytes [] fits e len =
    let w = ended (datum_read 16 bytes) e in
    (w.0, read_is_spelled bytes w.0 fits w.1)
walked_is_datum bytes (b ∷ rest) fits e len = absurd cc

refused : (d : Datum) (f : DataFault) (r : Result Datum DataFault) → r ≡ Ok d → r ≡ Err f → f ≡ NoMemory
refused d f r e g = absurd cc

-- only an allocation failure can refuse bytes that spell a datum
pub spelled_is_not_refused : (f : DataFault) (bytes : List ℕ) (d : Datum) → Spells bytes d → datum_of bytes ≡ Err f → f ≡ NoMemory
spelled_is_not_refused f bytes d s e = refused d f (datum_of bytes) (spelled_is_read bytes d s) e
