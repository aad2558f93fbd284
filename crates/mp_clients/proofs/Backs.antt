-- Former ledger states of a client.
use Rattle.std.proofs.Common.{◌≡◌, ℕ, ◌<◌, ◌≤◌, ◌-◌, Bool, true, false, cond, List, [], ◌∷◌, ◌++◌, length, take, drop, refl, sym, ap, subst, ◌∙◌}
use Rattle.std.specs.Prelude.{None, Some, nat_le, slice_get}
use Rattle.std.proofs.lemmas.Bool.{leb-true}
use Rattle.std.proofs.lemmas.Option.{same_Some}
use Rattle.mp_tx.specs.Ledger.{LedgerState}
use Rattle.mp_serve.specs.declared.former.Former.{Former}
use Rattle.mp_serve.specs.ServedPool.{state_back}
use Rattle.mp_serve.specs.Inside.Former.{earliest, states_of}
use Rattle.mp_serve.proofs.Formers.{length-states, earliest-behind, state-kept, state-lost}

-- a ledger state that is kept isn't too far back
kept_within : (former : List LedgerState) (now l : LedgerState) (count : ℕ) → state_back former now count ≡ Some l → count ≤ length former
kept_within former now l count e = by (nat_le count (length former)) refl e
  where
    by : (b : Bool) → nat_le count (length former) ≡ b → cond b (slice_get (former ++ now ∷ []) (length former - count)) None ≡ Some l → count ≤ length former
    by true is e = leb-true count (length former) is
    by false is e = Prim.cc

pub within : (fs : List Former) (now l : LedgerState) (count : ℕ) → state_back (states_of fs now) now count ≡ Some l → count ≤ length fs
within fs now l count e = subst (λ n. count ≤ n) (length-states fs now) (kept_within (states_of fs now) now l count e)

-- the one with which only those further back are left
pub is_back : (fs : List Former) (now l : LedgerState) (count left : ℕ) → left ≡ length fs - count → state_back (states_of fs now) now count ≡ Some l
    → l ≡ earliest (drop left fs) now
is_back fs now l count left at e =
    same_Some l (earliest (drop (length fs - count) fs) now) (sym e ∙ state-kept fs now count (within fs now l count e))
    ∙ ap (λ n. earliest (drop n fs) now) (sym at)

-- it is found where that many are kept
pub found_back : (fs : List Former) (now l : LedgerState) (count kept : ℕ) → kept ≡ length fs → count ≤ kept
    → l ≡ earliest (take (length fs - (kept - count)) (drop (kept - count) fs)) now → Some l ≡ state_back (states_of fs now) now count
found_back fs now l count kept many le is =
    ap (λ (x : LedgerState). Some x) (is ∙ earliest-behind (kept - count) fs fs now now refl refl)
    ∙ ap (λ n. Some (earliest (drop (n - count) fs) now)) many
    ∙ sym (state-kept fs now count (subst (λ n. count ≤ n) many le))

pub lost_back : (fs : List Former) (now : LedgerState) (count kept : ℕ) → kept ≡ length fs → kept < count → None ≡ state_back (states_of fs now) now count
lost_back fs now count kept many lt = sym (state-lost fs now count (subst (λ n. n < count) many lt))
