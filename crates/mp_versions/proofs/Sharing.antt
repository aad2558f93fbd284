-- Items of a run, one after the other.
use Rattle.std.proofs.Common.{◌≡◌, ◌≢◌, ℕ, suc, ◌+◌, ◌-◌, ◌<◌, List, [], ◌∷◌, ◌++◌, take, length, refl, length-append, sym, ap, ◌∙◌, arith, append_assoc}
use Rattle.std.specs.Prelude.{Result, Ok, Err, OnErr}
use Rattle.mp_tx.specs.Transaction.{Transaction}

-- after one more item, the items so far and those that may still come are the same
pub one_taken : (count at : ℕ) (done all left rest : List (ℕ × Transaction)) (i : ℕ × Transaction) → at < count → left ≡ i ∷ rest → done ++ take (count - at) left ≡ all
    → (done ++ i ∷ []) ++ take (count - (at + 1)) rest ≡ all
one_taken count at done all left rest i lt first before =
    let one : count - at ≡ suc (count - (at + 1)) = omega arith in
    append_assoc done (i ∷ []) (take (count - (at + 1)) rest)
    ∙ ap (λ n. done ++ take n (i ∷ rest)) (sym one)
    ∙ ap (λ l. done ++ take (count - at) l) (sym first)
    ∙ before

pub on_err : {A E P : Type 0} (r : Result A E) → P → OnErr r P
on_err (Ok a) p = tt
on_err (Err e) p = p

-- an item that may still come is one of them
pub some_left : (count at : ℕ) (done all left rest : List (ℕ × Transaction)) (i : ℕ × Transaction) → at < count → left ≡ i ∷ rest → done ++ take (count - at) left ≡ all → all ≢ []
some_left count at done all left rest i lt first before none =
    let one : count - at ≡ suc (count - (at + 1)) = omega arith in
    let here : done ++ i ∷ take (count - (at + 1)) rest ≡ [] =
    ap (λ n. done ++ take n (i ∷ rest)) (sym one) ∙ ap (λ l. done ++ take (count - at) l) (sym first) ∙ before ∙ none in
    let long : length done + length (i ∷ take (count - (at + 1)) rest) ≡ 0 = sym (length-append done (i ∷ take (count - (at + 1)) rest)) ∙ ap length here in
    let more : length (i ∷ take (count - (at + 1)) rest) ≡ suc (length (take (count - (at + 1)) rest)) = refl in
    omega arith
