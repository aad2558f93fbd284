-- Refusals in the order of their commands, which have no entries.
use Rattle.std.proofs.Common.{◌≡◌, ℕ, zero, suc, ◌+◌, ◌≤◌, Bool, true, List, [], ◌∷◌, ◌++◌, length, get_or, set, refl, sym, ap, ◌∙◌, arith}
use Rattle.std.specs.Prelude.{All}
use Rattle.std.proofs.lemmas.Bool.{false≢true}
use Rattle.mp_race.specs.declared.told.Refused.{Refused}
use Rattle.mp_race.specs.declared.told.Told.{Told}
use Rattle.mp_race.specs.Refusals.{AreInOrder, IsUntold}
use Rattle.mp_race.specs.Inside.Marks.{IsMarked, IsUnmarked}

-- the least command that may come next
abbrev pub least_after : ℕ → List Refused → ℕ
least_after least [] = least
least_after least (r ∷ rs) = least_after (r.task + 1) rs

pub one_more : (least : ℕ) (rs : List Refused) (r : Refused) → AreInOrder least rs → least_after least rs ≤ r.task → AreInOrder least (rs ++ r ∷ [])
one_more least [] r are le = (le, tt)
one_more least (s ∷ rs) r are le = (are.0, one_more (s.task + 1) rs r are.1 le)

pub least_more : (least : ℕ) (rs : List Refused) (r : Refused) → least_after least (rs ++ r ∷ []) ≡ r.task + 1
least_more least [] r = refl
least_more least (s ∷ rs) r = least_more (s.task + 1) rs r

-- Marks.

pub marked-beyond : (marks : List Bool) (n : ℕ) → length marks ≤ n → IsMarked marks n
marked-beyond [] n le = refl
marked-beyond (m ∷ marks) zero le = absurd (omega (arith, le))
marked-beyond (m ∷ marks) (suc n) le = marked-beyond marks n (omega (arith, le))

pub marked-set : (marks : List Bool) (i : ℕ) → IsMarked (set marks i true) i
marked-set [] i = refl
marked-set (m ∷ marks) zero = refl
marked-set (m ∷ marks) (suc i) = marked-set marks i

pub marked-still : (marks : List Bool) (i n : ℕ) → IsMarked marks n → IsMarked (set marks i true) n
marked-still [] i n is = is
marked-still (m ∷ marks) zero zero is = refl
marked-still (m ∷ marks) zero (suc n) is = is
marked-still (m ∷ marks) (suc i) zero is = is
marked-still (m ∷ marks) (suc i) (suc n) is = marked-still marks i n is

-- what isn't marked has no entry
pub untold : (marks : List Bool) (told : List Told) (rs : List Refused) → All (λ t. IsMarked marks t.task) told → All (λ r. IsUnmarked marks r.task) rs → All (IsUntold told) rs
untold marks told rs marked unmarked k d lt = λ j e within same.
    false≢true (sym (unmarked k d lt) ∙ ap (λ n. get_or marks n true) (sym same) ∙ marked j e within)
