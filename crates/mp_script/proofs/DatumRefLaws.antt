-- What is read again from the bytes of a datum is what it holds.
use Rattle.std.proofs.Common.{◌≡◌, ℕ, zero, suc, ◌+◌, ◌-◌, ◌<◌, ◌≤◌, max, List, [], ◌++◌, length, take, Option, Some, None, refl, sym, ap, subst, ◌∙◌, append_assoc, arith}
use Rattle.std.specs.Prelude.{nat_eq}
use Rattle.std.specs.Cmp.Lexicographic.{pointwise}
use Rattle.mp_script.specs.Meaning.{same_datum}
use Rattle.std.specs.Option.{option_map}
use Rattle.std.specs.Int.{w16, to_be_bytes}
use Rattle.std.proofs.lemmas.List.{append-nil, length-append, take_at}
use Rattle.mp_script.specs.Datum.{Datum, Items, number, octets, list, none, item, count, depth, deepest, Fits, AllFit, spelling, spellings, Spells, IsDatum, number_in, octets_in, length_in, item_in, item_at}
use Rattle.mp_script.specs.DataReading.{or_unit, tree_of}
use Rattle.mp_script.specs.Inside.DatumRef.{behind, bare, number_seen, octets_seen, items_seen, head_at, IsRun}
use Rattle.mp_bytes.proofs.Bytes.{some_is}
use Rattle.mp_bytes.proofs.FieldLaws.{number_again, count_again, sized_again}
use Rattle.mp_script.proofs.DataLaws.{spelled_is_read}

-- the datum that is spelled is the one that contracts see
pub tree_is : (bytes : List ℕ) (d : Datum) → Spells bytes d → tree_of bytes ≡ d
tree_is bytes d s = ap or_unit (spelled_is_read bytes d s)

number_of_spelled : (d : Datum) → Fits d → number_seen (spelling d ++ []) ≡ number_in d
unfolding number_seen
number_of_spelled (number n) fits = ap (option_map (λ f. f.0)) (number_again n [] fits)
number_of_spelled (octets bytes) fits = refl
number_of_spelled (list items) fits = refl

octets_of_spelled : (d : Datum) → Fits d → octets_seen (spelling d ++ []) ≡ octets_in d
unfolding octets_seen
octets_of_spelled (number n) fits = refl
octets_of_spelled (octets bytes) fits = ap (option_map (λ f. f.0)) (sized_again bytes [] fits)
octets_of_spelled (list items) fits = refl

-- the items of a list and their bytes
abbrev pub listed : Datum → Option (ℕ × List ℕ)
listed (number n) = None
listed (octets bytes) = None
listed (list items) = Some (count items, spellings items ++ [])

items_of_spelled : (d : Datum) → Fits d → items_seen (spelling d ++ []) ≡ listed d
unfolding items_seen
items_of_spelled (number n) fits = refl
items_of_spelled (octets bytes) fits = refl
items_of_spelled (list items) fits = count_again (count items) (spellings items ++ []) fits.0

spelled_so : (bytes : List ℕ) (d : Datum) → Spells bytes d → bytes ≡ spelling d ++ []
spelled_so bytes d s = s.spelled ∙ sym (append-nil (spelling d))

pub number_is_seen : (bytes : List ℕ) → IsDatum bytes → number_seen bytes ≡ number_in (tree_of bytes)
number_is_seen bytes (d, s) = ap number_seen (spelled_so bytes d s) ∙ number_of_spelled d s.fits ∙ ap number_in (sym (tree_is bytes d s))

pub octets_are_seen : (bytes : List ℕ) → IsDatum bytes → octets_seen bytes ≡ octets_in (tree_of bytes)
octets_are_seen bytes (d, s) = ap octets_seen (spelled_so bytes d s) ∙ octets_of_spelled d s.fits ∙ ap octets_in (sym (tree_is bytes d s))

pub items_are_seen : (bytes : List ℕ) → IsDatum bytes → items_seen bytes ≡ listed (tree_of bytes)
items_are_seen bytes (d, s) = ap items_seen (spelled_so bytes d s) ∙ items_of_spelled d s.fits ∙ ap listed (sym (tree_is bytes d s))

-- ---- runs of data

-- the items of a list; another datum has none
abbrev inner : Datum → Items
inner (number n) = none
inner (octets bytes) = none
inner (list items) = items

abbrev join : Items → Items → Items
join none more = more
join (item d ds) more = item d (join ds more)

count-join : (items more : Items) → count (join items more) ≡ count items + count more
count-join none more = omega arith
count-join (item d ds) more = omega (arith, count-join ds more)

join-fit : (items more : Items) → AllFit items → AllFit more → AllFit (join items more)
join-fit none more fit fits = fits
join-fit (item d ds) more fit fits = (fit.0, join-fit ds more fit.1 fits)

spellings-join : (items more : Items) → spellings (join items more) ≡ spellings items ++ spellings more
spellings-join none more = refl
spellings-join (item d ds) more = ap (λ (t : List ℕ). spelling d ++ t) (spellings-join ds more) ∙ sym (append_assoc (spelling d) (spellings ds) (spellings more))

inner-fit : (d : Datum) → Fits d → AllFit (inner d)
inner-fit (number n) fits = tt
inner-fit (octets bytes) fits = tt
inner-fit (list items) fits = fits.1

head_of : (d : Datum) (rest : List ℕ) → Fits d → head_at (spelling d ++ rest) ≡ Some (count (inner d), spellings (inner d) ++ rest)
unfolding head_at
head_of (number n) rest fits = ap bare (number_again n rest fits)
head_of (octets bytes) rest fits = ap bare (sized_again bytes rest fits)
head_of (list items) rest fits = count_again (count items) (spellings items ++ rest) fits.0

spelling_is_longer : (d : Datum) → length (spellings (inner d)) < length (spelling d)
spelling_is_longer (number n) = omega arith
spelling_is_longer (octets bytes) = omega arith
spelling_is_longer (list items) = omega (arith, length-append (to_be_bytes w16 (count items)) (spellings items))

many_bytes : (items : Items) → count items ≤ length (spellings items)
many_bytes none = omega arith
many_bytes (item d ds) = omega (arith, many_bytes ds, spelling_is_longer d, length-append (spelling d) (spellings ds))

-- a run isn't longer than its bytes
pub run_is_short : (bytes : List ℕ) (n : ℕ) (rest : List ℕ) → IsRun bytes n rest → n ≤ length bytes
run_is_short bytes n rest r = omega (arith, many_bytes r.items, r.number, ap length r.split, length-append (spellings r.items) rest)

-- a run without its head
record Beheaded (bytes : List ℕ) (n : ℕ) (rest : List ℕ) : Type 0 where
  more : ℕ
  after : List ℕ
  head : head_at bytes ≡ Some (more, after)
  shorter : length after < length bytes
  run : IsRun after (n + more) rest

behead : (items : Items) (bytes : List ℕ) (n : ℕ) (rest : List ℕ) → count items ≡ suc n → AllFit items → bytes ≡ spellings items ++ rest → Beheaded bytes n rest
behead none bytes n rest counted fit split = absurd (omega (arith, counted))
behead (item d ds) bytes n rest counted fit split =
    let behind : List ℕ = spellings ds ++ rest in
    let regrouped : bytes ≡ spelling d ++ (spellings ds ++ rest) = split ∙ append_assoc (spelling d) (spellings ds) rest in
    record {
      more = count (inner d);
      after = spellings (inner d) ++ (spellings ds ++ rest);
      head = ap head_at regrouped ∙ head_of d (spellings ds ++ rest) fit.0;
      shorter = omega (arith, ap length regrouped, spelling_is_longer d, length-append (spelling d) (spellings ds ++ rest), length-append (spellings (inner d)) (spellings ds ++ rest));
      run = record {
        items = join (inner d) ds;
        number = omega (arith, count-join (inner d) ds, counted);
        fit = join-fit (inner d) ds (inner-fit d fit.0) fit.1;
        split = sym (append_assoc (spellings (inner d)) (spellings ds) rest) ∙ ap (λ (t : List ℕ). t ++ rest) (sym (spellings-join (inner d) ds));
      };
    }

run_beheaded : (bytes : List ℕ) (n : ℕ) (rest : List ℕ) → IsRun bytes (suc n) rest → Beheaded bytes n rest
run_beheaded bytes n rest r = behead r.items bytes n rest r.number r.fit r.split

none_is_some : {A : Type 0} (o : Option A) (x : A) → o ≡ None → o ≡ Some x → ⊥
none_is_some o x e f = absurd cc

pub head_is_there : (bytes : List ℕ) (n : ℕ) (rest : List ℕ) → IsRun bytes n rest → 0 < n → head_at bytes ≡ None → ⊥
head_is_there bytes zero rest r some e = omega (arith, some)
head_is_there bytes (suc n) rest r some e =
    let b = run_beheaded bytes n rest r in
    none_is_some (head_at bytes) (b.more, b.after) e b.head

-- what is left of a run after its head
pub record Behind (bytes : List ℕ) (n : ℕ) (rest : List ℕ) (x : ℕ × List ℕ) : Type 0 where
  pub run : IsRun x.1 (n - 1 + x.0) rest
  pub shorter : length x.1 < length bytes

pub run_behind : (bytes : List ℕ) (n : ℕ) (rest : List ℕ) (x : ℕ × List ℕ) → IsRun bytes n rest → 0 < n → head_at bytes ≡ Some x → Behind bytes n rest x
run_behind bytes zero rest x r some e = absurd (omega (arith, some))
run_behind bytes (suc n) rest x r some e =
    let b = run_beheaded bytes n rest r in
    subst (λ (y : ℕ × List ℕ). Behind bytes (suc n) rest y) (some_is (head_at bytes) (b.more, b.after) x b.head e) (record { run = subst (λ (m : ℕ). IsRun b.after m rest) (omega arith) b.run; shorter = b.shorter })

no_run_left : (items : Items) (bytes rest : List ℕ) → count items ≡ 0 → bytes ≡ spellings items ++ rest → bytes ≡ rest
no_run_left none bytes rest counted split = split
no_run_left (item d ds) bytes rest counted split = absurd (omega (arith, counted))

pub run_is_over : (bytes : List ℕ) (n : ℕ) (rest : List ℕ) → IsRun bytes n rest → n ≤ 0 → bytes ≡ rest
run_is_over bytes n rest r over = no_run_left r.items bytes rest (omega (arith, r.number)) r.split

-- ---- the item at a place

-- the bytes before an item, its own, and those after it
pub record IsItem (bytes : List ℕ) (place : ℕ) (items : Items) : Type 0 where
  pub at : Datum
  pub more : Items
  pub found : item_at items place ≡ Some at
  pub fits : Fits at
  pub before : IsRun bytes place (spelling at ++ spellings more)
  pub own : IsRun (spelling at ++ spellings more) 1 (spellings more)

pub item_there : (items : Items) (place : ℕ) → AllFit items → place < count items → IsItem (spellings items) place items
item_there none place fit lt = absurd (omega (arith, lt))
item_there (item d ds) zero fit lt = record {
  at = d;
  more = ds;
  found = refl;
  fits = fit.0;
  before = record { items = none; number = refl; fit = tt; split = refl };
  own = record { items = item d none; number = refl; fit = (fit.0, tt); split = ap (λ (t : List ℕ). t ++ spellings ds) (sym (append-nil (spelling d))) };
}
item_there (item d ds) (suc place) fit lt =
    let i = item_there ds place fit.1 (omega (arith, lt)) in
    record {
      at = i.at;
      more = i.more;
      found = i.found;
      fits = i.fits;
      before = record {
        items = item d i.before.items;
        number = ap suc i.before.number;
        fit = (fit.0, i.before.fit);
        split = ap (λ (t : List ℕ). spelling d ++ t) i.before.split ∙ sym (append_assoc (spelling d) (spellings i.before.items) (spelling i.at ++ spellings i.more));
      };
      own = i.own;
    }

pub item_before : (bytes : List ℕ) (items : Items) (place : ℕ) (fit : AllFit items) (lt : place < count items) → bytes ≡ spellings items → IsRun bytes place (spelling (item_there items place fit lt).at ++ spellings (item_there items place fit lt).more)
item_before bytes items place fit lt split = subst (λ (t : List ℕ). IsRun t place (spelling (item_there items place fit lt).at ++ spellings (item_there items place fit lt).more)) (sym split) (item_there items place fit lt).before

pub cut : (text rest whole behind : List ℕ) → whole ≡ text ++ rest → behind ≡ rest → take (length whole - length behind) whole ≡ text
cut text rest whole behind w b =
    let len : length text ≡ length whole - length behind = omega (arith, ap length w, ap length b, length-append text rest) in
    ap (take (length whole - length behind)) w ∙ take_at text rest (length whole - length behind) len

-- ---- the items of a datum

pub tree_spelled : (bytes : List ℕ) → IsDatum bytes → Spells bytes (tree_of bytes)
tree_spelled bytes (d, s) = subst (λ (x : Datum). Spells bytes x) (sym (tree_is bytes d s)) s

unlisted : (d : Datum) (place : ℕ) → listed d ≡ None → (length_in d ≡ None) × (item_in d place ≡ None)
unlisted (number n) place e = (refl, refl)
unlisted (octets bytes) place e = (refl, refl)
unlisted (list items) place e = absurd cc

pub no_items : (bytes : List ℕ) (place : ℕ) → IsDatum bytes → items_seen bytes ≡ None → (length_in (tree_of bytes) ≡ None) × (item_in (tree_of bytes) place ≡ None)
no_items bytes place d e = unlisted (tree_of bytes) place (sym (items_are_seen bytes d) ∙ e)

-- a list, as its bytes show it
pub record IsListed (d : Datum) (n : ℕ) (text : List ℕ) : Type 0 where
  pub items : Items
  pub is : d ≡ list items
  pub number : n ≡ count items
  pub split : text ≡ spellings items

listed_so : (d : Datum) (n : ℕ) (text : List ℕ) → listed d ≡ Some (n, text) → IsListed d n text
listed_so (number m) n text e = absurd cc
listed_so (octets bytes) n text e = absurd cc
listed_so (list items) n text e =
    let p : (n, text) ≡ (count items, spellings items ++ []) = some_is (Some (n, text)) (n, text) (count items, spellings items ++ []) refl (sym e) in
    record { items = items; is = refl; number = ap (λ (q : ℕ × List ℕ). q.0) p; split = ap (λ (q : ℕ × List ℕ). q.1) p ∙ append-nil (spellings items) }

pub some_items : (bytes : List ℕ) (n : ℕ) (text : List ℕ) → IsDatum bytes → items_seen bytes ≡ Some (n, text) → IsListed (tree_of bytes) n text
some_items bytes n text d e = listed_so (tree_of bytes) n text (sym (items_are_seen bytes d) ∙ e)

past_items : (items : Items) (place : ℕ) → count items ≤ place → item_at items place ≡ None
past_items none place past = refl
past_items (item d ds) zero past = absurd (omega (arith, past))
past_items (item d ds) (suc place) past = past_items ds place (omega (arith, past))

pub past_all : (d : Datum) (n : ℕ) (text : List ℕ) (place : ℕ) → IsListed d n text → n ≤ place → item_in d place ≡ None
past_all d n text place l past = ap (λ (x : Datum). item_in x place) l.is ∙ past_items l.items place (omega (arith, past, l.number))

item_fits : (items : Items) (place : ℕ) (d : Datum) → AllFit items → item_at items place ≡ Some d → Fits d × (depth d ≤ deepest items)
item_fits none place d fit e = absurd (none_is_some None d refl e)
item_fits (item first ds) zero d fit e =
    let same : first ≡ d = some_is (Some first) first d refl e in
    subst (λ (x : Datum). Fits x × (depth x ≤ max (depth first) (deepest ds))) same (fit.0, omega arith)
item_fits (item first ds) (suc place) d fit e =
    let f = item_fits ds place d fit.1 e in
    (f.0, omega (arith, f.1))

-- what spells an item of a datum spells a datum
pub item_is_datum : (bytes own : List ℕ) (items : Items) (place : ℕ) (d : Datum) → IsDatum bytes → tree_of bytes ≡ list items → item_at items place ≡ Some d → own ≡ spelling d → Spells own d
item_is_datum bytes own items place d isd is e spelled =
    let s = subst (λ (x : Datum). Spells bytes x) is (tree_spelled bytes isd) in
    let f = item_fits items place d s.fits.1 e in
    record { fits = f.0; shallow = omega (arith, f.1, s.shallow); spelled = spelled }

pub items_fit : (bytes : List ℕ) (items : Items) → IsDatum bytes → tree_of bytes ≡ list items → AllFit items
items_fit bytes items isd is = (subst (λ (x : Datum). Spells bytes x) is (tree_spelled bytes isd)).fits.1

-- data are the same if their bytes are
pub same_bytes : (a b : List ℕ) → IsDatum a → IsDatum b → pointwise nat_eq a b ≡ same_datum (tree_of a) (tree_of b)
same_bytes a b d e = ap (λ (t : List ℕ). pointwise nat_eq t b) (tree_spelled a d).spelled ∙ ap (pointwise nat_eq (spelling (tree_of a))) (tree_spelled b e).spelled
