-- Ledger states, given what is stored to go back to them.
use Rattle.std.proofs.Common.{◌≡◌, ℕ, zero, suc, ◌-◌, ◌<◌, ◌≤◌, true, false, cond, List, [], ◌∷◌, ◌++◌, length, take, drop, refl, sym, ap, subst, ◌∙◌, arith}
use Rattle.std.specs.Prelude.{None, Some, slice_get, nat_le}
use Rattle.std.proofs.lemmas.Bool.Decides.{nat_tests}
use Rattle.std.proofs.lemmas.List.{take_all, length-drop}
use Rattle.mp_tx.specs.Ledger.{LedgerState}
use Rattle.mp_serve.specs.declared.former.Former.{Former}
use Rattle.mp_serve.specs.declared.former.Former.TheVariants.{Block, Whole}
use Rattle.mp_serve.specs.ServedPool.{latest, state_back}
use Rattle.mp_serve.specs.Inside.Former.{state_before, CanGoBack, LeadsBack, earliest, states_of, CanAllGoBack}

pub can_back : (now : LedgerState) (f : Former) (before : LedgerState) → LeadsBack now f before → CanGoBack now f
can_back now (Block undo) before leads = leads.can
can_back now (Whole ledger) before leads = tt

pub is_back : (now : LedgerState) (f : Former) (before : LedgerState) → LeadsBack now f before → state_before now f ≡ before
is_back now (Block undo) before leads = leads.back
is_back now (Whole ledger) before leads = leads

pub earliest-append : (fs gs : List Former) (now : LedgerState) → earliest (fs ++ gs) now ≡ earliest fs (earliest gs now)
earliest-append [] gs now = refl
earliest-append (f ∷ fs) gs now = ap (λ l. state_before l f) (earliest-append fs gs now)

pub states-append : (fs gs : List Former) (now : LedgerState) → states_of (fs ++ gs) now ≡ states_of fs (earliest gs now) ++ states_of gs now
states-append [] gs now = refl
states-append (f ∷ fs) gs now =
    ap (λ l. state_before l f ∷ states_of (fs ++ gs) now) (earliest-append fs gs now)
    ∙ ap (λ ls. earliest (f ∷ fs) (earliest gs now) ∷ ls) (states-append fs gs now)

pub length-states : (fs : List Former) (now : LedgerState) → length (states_of fs now) ≡ length fs
length-states [] now = refl
length-states (f ∷ fs) now = ap suc (length-states fs now)

pub states-drop : (n : ℕ) (fs : List Former) (now : LedgerState) → states_of (drop n fs) now ≡ drop n (states_of fs now)
states-drop zero fs now = refl
states-drop (suc n) [] now = refl
states-drop (suc n) (f ∷ fs) now = states-drop n fs now

pub earliest-take : (n : ℕ) (fs : List Former) (now : LedgerState) → earliest (take n fs) (earliest (drop n fs) now) ≡ earliest fs now
earliest-take zero fs now = refl
earliest-take (suc n) [] now = refl
earliest-take (suc n) (f ∷ fs) now = ap (λ l. state_before l f) (earliest-take n fs now)

-- those before one of them
pub states-take : (n : ℕ) (fs : List Former) (now : LedgerState) → states_of (take n fs) (earliest (drop n fs) now) ≡ take n (states_of fs now)
states-take zero fs now = refl
states-take (suc n) [] now = refl
states-take (suc n) (f ∷ fs) now =
    ap (λ l. state_before l f ∷ states_of (take n fs) (earliest (drop n fs) now)) (earliest-take n fs now)
    ∙ ap (λ ls. earliest (f ∷ fs) now ∷ ls) (states-take n fs now)

-- the one at an index; the last one is the state to which they lead
pub state-at : (n : ℕ) (fs : List Former) (now : LedgerState) → n ≤ length fs → slice_get (states_of fs now ++ now ∷ []) n ≡ Some (earliest (drop n fs) now)
state-at zero [] now le = refl
state-at zero (f ∷ fs) now le = refl
state-at (suc n) [] now le = absurd (omega (arith, le))
state-at (suc n) (f ∷ fs) now le = state-at n fs now (omega (arith, le))

-- one more, which leads back to the state to which the others lead
pub can-push : (fs : List Former) (f : Former) (new old : LedgerState) → CanAllGoBack fs old → LeadsBack new f old → CanAllGoBack (fs ++ f ∷ []) new
can-push [] f new old can leads = (can_back new f old leads, tt)
can-push (g ∷ fs) f new old can leads =
    let same : earliest (fs ++ f ∷ []) new ≡ earliest fs old = earliest-append fs (f ∷ []) new ∙ ap (earliest fs) (is_back new f old leads) in
    (subst (λ l. CanGoBack l g) (sym same) can.0, can-push fs f new old can.1 leads)

pub states-push : (fs : List Former) (f : Former) (new old : LedgerState) → LeadsBack new f old → states_of (fs ++ f ∷ []) new ≡ states_of fs old ++ old ∷ []
states-push fs f new old leads = states-append fs (f ∷ []) new ∙ ap (λ l. states_of fs l ++ l ∷ []) (is_back new f old leads)

pub can-drop : (n : ℕ) (fs : List Former) (now : LedgerState) → CanAllGoBack fs now → CanAllGoBack (drop n fs) now
can-drop zero fs now can = can
can-drop (suc n) [] now can = can
can-drop (suc n) (f ∷ fs) now can = can-drop n fs now can.1

-- the last of a list leads back, and then the others do
pub can-last : (fs : List Former) (f : Former) (now : LedgerState) → CanAllGoBack (fs ++ f ∷ []) now → CanGoBack now f × CanAllGoBack fs (state_before now f)
can-last [] f now can = (can.0, tt)
can-last (g ∷ fs) f now can =
    let rest = can-last fs f now can.1 in
    (rest.0, (subst (λ l. CanGoBack l g) (earliest-append fs (f ∷ []) now) can.0, rest.1))

pub can-take : (n : ℕ) (fs : List Former) (now : LedgerState) → CanAllGoBack fs now → CanAllGoBack (take n fs) (earliest (drop n fs) now)
can-take zero fs now can = tt
can-take (suc n) [] now can = tt
can-take (suc n) (f ∷ fs) now can = (subst (λ l. CanGoBack l f) (sym (earliest-take n fs now)) can.0, can-take n fs now can.1)

-- with one more, and without the oldest if there are too many
pub states-latest : (fs : List Former) (f : Former) (new old : LedgerState) → LeadsBack new f old
    → states_of (latest (fs ++ f ∷ [])) new ≡ latest (states_of fs old ++ old ∷ [])
states-latest fs f new old leads =
    let all : List Former = fs ++ f ∷ [] in
    states-drop (length all - 2160) all new
    ∙ ap (λ n. drop (n - 2160) (states_of all new)) (sym (length-states all new))
    ∙ ap latest (states-push fs f new old leads)

pub can-latest : (fs : List Former) (f : Former) (new old : LedgerState) → CanAllGoBack fs old → LeadsBack new f old → CanAllGoBack (latest (fs ++ f ∷ [])) new
can-latest fs f new old can leads = can-drop (length (fs ++ f ∷ []) - 2160) (fs ++ f ∷ []) new (can-push fs f new old can leads)

-- -- those after the first ones, as a slice of the list

all-behind : (n : ℕ) (fs : List Former) → take (length fs - n) (drop n fs) ≡ drop n fs
all-behind n fs = let same : length (drop n fs) ≡ length fs - n = length-drop n fs in take_all (length fs - n) (drop n fs) (omega (arith, same))

pub earliest-behind : (n : ℕ) (fs slice : List Former) (now l : LedgerState) → slice ≡ fs → l ≡ now
    → earliest (take (length slice - n) (drop n slice)) l ≡ earliest (drop n fs) now
earliest-behind n fs slice now l is same =
    ap (λ (gs : List Former). earliest (take (length gs - n) (drop n gs)) l) is ∙ ap (λ (gs : List Former). earliest gs l) (all-behind n fs) ∙ ap (earliest (drop n fs)) same

pub can-behind : (n : ℕ) (fs slice : List Former) (now l : LedgerState) → slice ≡ fs → l ≡ now → CanAllGoBack fs now
    → CanAllGoBack (take (length slice - n) (drop n slice)) l
can-behind n fs slice now l is same can =
    subst (λ (gs : List Former). CanAllGoBack (take (length gs - n) (drop n gs)) l) (sym is)
    (subst (λ (gs : List Former). CanAllGoBack gs l) (sym (all-behind n fs)) (subst (CanAllGoBack (drop n fs)) (sym same) (can-drop n fs now can)))

-- -- the ledger state some steps ago

within : (count n : ℕ) → count ≤ n → nat_le count n ≡ true
within count n le = grind (arith, nat_tests)

beyond : (count n : ℕ) → n < count → nat_le count n ≡ false
beyond count n lt = grind (arith, nat_tests)

place : (n count : ℕ) → count ≤ n → n - count ≤ n
place n count le = omega arith

pub state-kept : (fs : List Former) (now : LedgerState) (count : ℕ) → count ≤ length fs
    → state_back (states_of fs now) now count ≡ Some (earliest (drop (length fs - count) fs) now)
state-kept fs now count le =
    let states : List LedgerState = states_of fs now in
    ap (λ b. cond b (slice_get (states ++ now ∷ []) (length states - count)) None) (within count (length states) (subst (λ n. count ≤ n) (sym (length-states fs now)) le))
    ∙ ap (λ n. slice_get (states ++ now ∷ []) (n - count)) (length-states fs now)
    ∙ state-at (length fs - count) fs now (place (length fs) count le)

pub state-lost : (fs : List Former) (now : LedgerState) (count : ℕ) → length fs < count → state_back (states_of fs now) now count ≡ None
state-lost fs now count lt =
    let states : List LedgerState = states_of fs now in
    ap (λ b. cond b (slice_get (states ++ now ∷ []) (length states - count)) None) (beyond count (length states) (subst (λ n. n < count) (sym (length-states fs now)) lt))
