-- The first line of bytes that begin with a prefix without a line feed.
use Rattle.std.proofs.Common.{◌≡◌, ◌≢◌, ℕ, suc, ◌+◌, ◌-◌, ◌<◌, ◌≤◌, Bool, true, false, cond, List, [], ◌∷◌, ◌++◌, All, Option, None, Some, Result, Ok, Err, IfSome, IfOk, OnOk, take, drop, length, length-append, get_or, get_or-take, length-take-le, append_assoc, append-nil, take-append-drop, refl, sym, ap, subst, ◌∙◌, arith, ne_eqb, eqb-true}
use Rattle.std.specs.Prelude.{◌==◌, ◌&&◌, nat_lt, slice_index}
use Rattle.std.proofs.lemmas.Bool.{eqb-false}
use Rattle.std.proofs.lemmas.Bool.Decides.{nat_tests}
use Rattle.std.proofs.lemmas.List.{take_more}
use Rattle.std.proofs.lemmas.List.Elements.{All-head, All-tail, All-append}
use Rattle.std.proofs.lemmas.List.Sums.{fails_before_first, passes_at_first}
use Rattle.std.proofs.KnownBytes.{Consumes-trans, starts_with_rest}
use Rattle.std.proofs.BufReadLemmas.{drop_through-append}
use Rattle.std.specs.List.{position_or_len}
use Rattle.std.specs.Io.{StartsWith}
use Rattle.std.specs.Io.KnownBytes.{Consumes, Keeps, IsAtEnd}
use Rattle.std.specs.Io.BufRead.{take_through, drop_through, DropsThrough, ends_with_byte, strip_last}
use Rattle.mp_text.specs.declared.line_input.LineRead.{LineRead}
use Rattle.mp_text.specs.declared.line_input.LineRead.TheVariants.{Whole, TooLong, Lost}
use Rattle.mp_text.specs.LineInput.{first_line, IsLine}
use Rattle.mp_text.specs.Inside.LineInput.{Adds}

-- no line feed
abbrev pub IsClear : List ℕ → Type 0
IsClear bytes = All (λ b. b ≢ 10) bytes

strip_cond : (b : Bool) (x : ℕ) (n : ℕ) (ts : List ℕ) → cond b (take (suc n) (x ∷ ts)) (x ∷ ts) ≡ x ∷ cond b (take n ts) ts
strip_cond true x n ts = refl
strip_cond false x n ts = refl

positive : (n : ℕ) → nat_lt 0 (suc n) ≡ true
positive n = grind (arith, nat_tests)

before : (n : ℕ) → suc n - 1 ≡ n
before n = omega arith

ends : (x : ℕ) (xs : List ℕ) → ends_with_byte 10 (x ∷ xs) ≡ (slice_index (x ∷ xs) (length xs) == 10)
ends x xs =
    ap (λ b. b && (slice_index (x ∷ xs) (suc (length xs) - 1) == 10)) (positive (length xs))
    ∙ ap (λ n. slice_index (x ∷ xs) n == 10) (before (length xs))

strip : (x : ℕ) (xs : List ℕ) → strip_last 10 (x ∷ xs) ≡ cond (slice_index (x ∷ xs) (length xs) == 10) (take (length xs) (x ∷ xs)) (x ∷ xs)
strip x xs =
    ap (λ b. cond b (take (suc (length xs) - 1) (x ∷ xs)) (x ∷ xs)) (ends x xs)
    ∙ ap (λ n. cond (slice_index (x ∷ xs) (length xs) == 10) (take n (x ∷ xs)) (x ∷ xs)) (before (length xs))

strip-cons : (x t : ℕ) (ts : List ℕ) → strip_last 10 (x ∷ t ∷ ts) ≡ x ∷ strip_last 10 (t ∷ ts)
strip-cons x t ts =
    strip x (t ∷ ts) ∙ strip_cond (slice_index (t ∷ ts) (length ts) == 10) x (length ts) (t ∷ ts) ∙ ap (λ l. x ∷ l) (sym (strip t ts))

strip_one : (x : ℕ) (b : Bool) → (x == 10) ≡ b → strip_last 10 (x ∷ []) ≡ cond b [] (x ∷ [])
strip_one x b e = strip x [] ∙ ap (λ c. cond c [] (x ∷ [])) e

strip_through : (b : Bool) (x y : ℕ) (ys : List ℕ) → strip_last 10 (x ∷ cond b (y ∷ []) (y ∷ take_through 10 ys)) ≡ x ∷ strip_last 10 (cond b (y ∷ []) (y ∷ take_through 10 ys))
strip_through true x y ys = strip-cons x y []
strip_through false x y ys = strip-cons x y (take_through 10 ys)

other_byte : (x : ℕ) (xs : List ℕ) → (x == 10) ≡ false → first_line (x ∷ xs) ≡ strip_last 10 (x ∷ take_through 10 xs)
other_byte x xs is = ap (λ b. strip_last 10 (cond b (x ∷ []) (x ∷ take_through 10 xs))) is

first_more : (x : ℕ) (xs : List ℕ) → (x == 10) ≡ false → first_line (x ∷ xs) ≡ x ∷ first_line xs
first_more x [] is = other_byte x [] is ∙ strip_one x false is
first_more x (y ∷ ys) is = other_byte x (y ∷ ys) is ∙ strip_through (y == 10) x y ys

pub first_feed : (xs : List ℕ) → first_line (10 ∷ xs) ≡ []
first_feed xs = strip_one 10 true refl

pub first-append : (part xs : List ℕ) → IsClear part → first_line (part ++ xs) ≡ part ++ first_line xs
first-append [] xs clear = refl
first-append (x ∷ part) xs clear =
    first_more x (part ++ xs) (ne_eqb x 10 (All-head (λ y. y ≢ 10) x part clear))
    ∙ ap (λ l. x ∷ l) (first-append part xs (All-tail (λ y. y ≢ 10) x part clear))

pub first-all : (part : List ℕ) → IsClear part → first_line part ≡ part
first-all part clear = ap first_line (sym (append-nil part)) ∙ first-append part [] clear ∙ append-nil part

first-part : (part xs : List ℕ) → IsClear part → first_line (part ++ 10 ∷ xs) ≡ part
first-part part xs clear = first-append part (10 ∷ xs) clear ∙ ap (λ l. part ++ l) (first_feed xs) ∙ append-nil part

-- what precedes the first feed has none
pub clear-before : (shown : List ℕ) (n : ℕ) → n ≡ position_or_len (λ b. b == 10) shown → n ≤ length shown → IsClear (take n shown)
clear-before shown n first within = λ k d lt is.
    let less : k < n = subst (λ m. k < m) (length-take-le n shown within) lt in
    eqb-false (get_or shown k d) 10 (fails_before_first (λ b. b == 10) shown k d (subst (λ m. k < m) first less)) (sym (get_or-take n shown k d less) ∙ is)

pub with_feed : (shown : List ℕ) (n : ℕ) → n ≡ position_or_len (λ b. b == 10) shown → n < length shown → take (n + 1) shown ≡ take n shown ++ 10 ∷ []
with_feed shown n first lt =
    let here : (get_or shown n 0 == 10) ≡ true = subst (λ m. (get_or shown m 0 == 10) ≡ true) (sym first) (passes_at_first (λ b. b == 10) shown 0 (subst (λ m. m < length shown) first lt)) in
    take_more shown n 0 lt ∙ ap (λ b. take n shown ++ b ∷ []) (eqb-true (get_or shown n 0) 10 here)

-- a line is at least as long as what the reader shows of it
pub shown_le : (shown : List ℕ) (n : ℕ) (a : Option (List ℕ)) → n ≡ position_or_len (λ b. b == 10) shown → n ≤ length shown → IfSome a (λ xs. StartsWith xs shown) → IfSome a (λ xs. n ≤ length (first_line xs))
shown_le shown n None first within starts = tt
shown_le shown n (Some xs) first within starts =
    let front = take n shown in
    let split : xs ≡ front ++ (drop n shown ++ drop (length shown) xs) =
    starts_with_rest xs shown starts ∙ ap (λ l. l ++ drop (length shown) xs) (sym (take-append-drop n shown)) ∙ append_assoc front (drop n shown) (drop (length shown) xs) in
    let long = ap length (ap first_line split ∙ first-append front _ (clear-before shown n first within)) ∙ length-append front _ in
    omega (arith, long, length-take-le n shown within)

-- so it is too long if that doesn't fit
pub shown_long : (limit kept n : ℕ) (a : Option (List ℕ)) → limit - kept < n → IfSome a (λ xs. n ≤ length (first_line xs)) → IfSome a (λ xs. limit < kept + length (first_line xs))
shown_long limit kept n None lt le = tt
shown_long limit kept n (Some xs) lt le = omega (arith, lt, le)

-- ---- a line, part by part

-- the bytes read so far are those kept
pub record IsKept (limit : ℕ) (first now : Option (List ℕ)) (line : List ℕ) : Type 0 where
  pub clear : IsClear line
  pub read : Consumes first now line
  pub short : length line ≤ limit

pub kept-more : (limit : ℕ) (first now after : Option (List ℕ)) (line new : List ℕ) → IsKept limit first now line → Adds now after line new [] → length new ≤ limit → IsKept limit first after new
kept-more limit first now after line new kept (part, clear, is, read) short = record {
  clear = subst IsClear (sym is) (All-append (λ b. b ≢ 10) line part kept.clear clear);
  read = subst (Consumes first after) (ap (λ l. line ++ l) (append-nil part) ∙ sym is) (Consumes-trans first now after line (part ++ []) kept.read read);
  short = short;
}

some_byte : (xs part : List ℕ) (b : ℕ) (rest : List ℕ) → xs ≡ part ++ b ∷ rest → xs ≢ []
some_byte xs part b rest is none = omega (arith, ap length (sym none ∙ is), length-append part (b ∷ rest))

-- the feed that ends the line comes
pub kept-feed : (limit : ℕ) (first now after : Option (List ℕ)) (line new : List ℕ) → IsKept limit first now line → Adds now after line new (10 ∷ []) → length new ≤ limit
    → DropsThrough first after 10 × IfSome first (λ bytes. IsLine limit bytes Whole new)
kept-feed limit None now after line new kept added short = (tt, tt)
kept-feed limit (Some xs) None after line new kept added short = absurd kept.read
kept-feed limit (Some xs) (Some ys) None line new kept (part, clear, is, read) short = absurd read
kept-feed limit (Some xs) (Some ys) (Some zs) line new kept (part, clear, is, read) short =
    let all : xs ≡ new ++ 10 ∷ zs =
    kept.read ∙ ap (λ l. line ++ l) (read ∙ append_assoc part (10 ∷ []) zs) ∙ sym (append_assoc line part (10 ∷ zs)) ∙ ap (λ l. l ++ 10 ∷ zs) (sym is) in
    let clear_all : IsClear new = subst IsClear (sym is) (All-append (λ b. b ≢ 10) line part kept.clear clear) in
    let line_is : first_line xs ≡ new = ap first_line all ∙ first-part new zs clear_all in (
      ap Some (sym (ap (drop_through 10) all ∙ drop_through-append 10 new (10 ∷ zs) clear_all)),
      (some_byte xs new 10 zs all, subst (λ l. length l ≤ limit) (sym line_is) short, sym line_is),
    )

-- the input has ended
pub kept-end : (limit : ℕ) (first now after : Option (List ℕ)) (line : List ℕ) → IsKept limit first now line → Keeps now after → IsAtEnd now
    → DropsThrough first after 10 × IfSome first (λ bytes. (bytes ≡ line) × (first_line bytes ≡ line))
kept-end limit None now after line kept keeps ended = (tt, tt)
kept-end limit (Some xs) None after line kept keeps ended = absurd kept.read
kept-end limit (Some xs) (Some ys) None line kept keeps ended = absurd keeps
kept-end limit (Some xs) (Some ys) (Some zs) line kept keeps ended =
    let all : xs ≡ line = kept.read ∙ ap (λ l. line ++ l) ended ∙ append-nil line in (
      ap Some (keeps ∙ ended ∙ sym (ap (drop_through 10) (kept.read ∙ ap (λ l. line ++ l) ended) ∙ drop_through-append 10 line [] kept.clear)),
      (all, ap first_line all ∙ first-all line kept.clear),
    )

pub end-some : (limit : ℕ) (first : Option (List ℕ)) (line new : List ℕ) → new ≡ line → (length new ≡ 0 → ⊥) → length line ≤ limit → IfSome first (λ bytes. (bytes ≡ line) × (first_line bytes ≡ line))
    → IfSome first (λ bytes. IsLine limit bytes Whole new)
end-some limit None line new same some short is = tt
end-some limit (Some xs) line new same some short is =
    (λ none. some (ap length (same ∙ sym is.0 ∙ none)), subst (λ l. length l ≤ limit) (sym is.1) short, same ∙ sym is.1)

-- nothing more is kept
pub kept-rest : (first now rested after : Option (List ℕ)) (limit : ℕ) (line : List ℕ) → IsKept limit first now line → Keeps now rested → DropsThrough rested after 10 → DropsThrough first after 10
kept-rest None now rested after limit line kept keeps drops = tt
kept-rest (Some xs) None rested after limit line kept keeps drops = absurd kept.read
kept-rest (Some xs) (Some ys) None after limit line kept keeps drops = absurd keeps
kept-rest (Some xs) (Some ys) (Some zs) after limit line kept keeps drops =
    drops ∙ ap Some (ap (drop_through 10) keeps ∙ sym (ap (drop_through 10) kept.read ∙ drop_through-append 10 line ys kept.clear))

pub kept-long : (limit : ℕ) (first now : Option (List ℕ)) (line new : List ℕ) → IsKept limit first now line → IfSome now (λ bytes. limit < length line + length (first_line bytes)) → IfSome first (λ bytes. IsLine limit bytes TooLong new)
kept-long limit None now line new kept long = tt
kept-long limit (Some xs) None line new kept long = absurd kept.read
kept-long limit (Some xs) (Some ys) line new kept long =
    let is = ap length (ap first_line kept.read ∙ first-append line ys kept.clear) ∙ length-append line (first_line ys) in omega (arith, is, long)

pub kept-lost : (limit : ℕ) (first now : Option (List ℕ)) (line new : List ℕ) → IsKept limit first now line → IfSome now (λ bytes. bytes ≢ []) → IfSome first (λ bytes. IsLine limit bytes Lost new)
kept-lost limit None now line new kept some = tt
kept-lost limit (Some xs) None line new kept some = absurd kept.read
kept-lost limit (Some xs) (Some []) line new kept some = absurd (some refl)
kept-lost limit (Some xs) (Some (y ∷ ys)) line new kept some = some_byte xs line y ys kept.read

pub if_ok : {E : Type 0} (result : Result LineRead E) (A B : Type 0) → OnOk result A → (A → B) → OnOk result B
if_ok (Ok x) A B a f = f a
if_ok (Err e) A B a f = tt

pub skipped : {E : Type 0} (a : Option (List ℕ)) (result : Result LineRead E) (told : LineRead) (P : List ℕ → LineRead → Type 0) → IfOk result (λ r. r ≡ told) → IfSome a (λ bytes. P bytes told)
    → IfSome a (λ bytes. IfOk result (λ r. P bytes r))
skipped None result told P is holds = tt
skipped (Some xs) (Ok r) told P is holds = subst (P xs) (sym is) holds
skipped (Some xs) (Err e) told P is holds = tt
