-- What is noted of each caller's last entry.
use Rattle.std.proofs.Common.{◌≡◌, ℕ, ◌<◌, true, false, List, ◌∷◌, ◌++◌, [], length, get_or, set, replicate, refl, sym, ap, ◌∙◌, arith, eqb-true, length-set, get_or-set_same, get_or-set_other}
use Rattle.std.proofs.lemmas.Bool.{eqb-false}
use lib.ListN.{length-replicate, get_or-replicate}
use Rattle.std.specs.Prelude.{◌==◌, Option, None, Some}
use Rattle.mp_history.specs.Entry.{Entry}
use Rattle.mp_history.specs.Log.{last_of}
use Rattle.mp_history.proofs.Logs.{last_of-own, last_of-other}
use Rattle.mp_mempool.specs.Inside.Locked.{ArePlaces}

pub none_yet : (callers : ℕ) → ArePlaces callers [] (replicate callers None)
none_yet callers = record { count = length-replicate callers None; each = λ c lt. get_or-replicate callers c None None lt }

one_noted : (callers : ℕ) (es : List Entry) (places : List (Option ℕ)) (e : Entry) → ArePlaces callers es places → e.caller < callers
    → (c : ℕ) → c < callers → get_or (set places e.caller (Some (length es))) c None ≡ last_of c (es ++ e ∷ [])
one_noted callers es places e were known c lt = elim (c == e.caller) as (λ b. (c == e.caller) ≡ b → get_or (set places e.caller (Some (length es))) c None ≡ last_of c (es ++ e ∷ [])) [
  | true ↦ λ t. own t
  | false ↦ λ f. other f
] refl
  where
    in_range : e.caller < length places
    in_range = let count = were.count in omega (arith, count, known)

    own : (c == e.caller) ≡ true → get_or (set places e.caller (Some (length es))) c None ≡ last_of c (es ++ e ∷ [])
    own t = ap (λ k. get_or (set places e.caller (Some (length es))) k None) (eqb-true c e.caller t) ∙ get_or-set_same places e.caller (Some (length es)) None in_range ∙ sym (last_of-own c es e t)

    other : (c == e.caller) ≡ false → get_or (set places e.caller (Some (length es))) c None ≡ last_of c (es ++ e ∷ [])
    other f = get_or-set_other places e.caller c (Some (length es)) None (eqb-false c e.caller f) ∙ were.each c lt ∙ sym (last_of-other c es e f)

-- the new entry's place is noted for its caller
pub noted : (callers : ℕ) (es : List Entry) (places : List (Option ℕ)) (e : Entry) → ArePlaces callers es places → e.caller < callers
    → ArePlaces callers (es ++ e ∷ []) (set places e.caller (Some (length es)))
noted callers es places e were known = record { count = length-set places e.caller (Some (length es)) ∙ were.count; each = one_noted callers es places e were known }
