-- One iteration of a loop over a ticket list.
use Rattle.std.proofs.Common.{◌≡◌, ℕ, ◌<◌, List, [], ◌∷◌, ◌++◌, All, map, refl, sym, ap, subst, ◌∙◌}
use Rattle.std.specs.Prelude.{Option, Some}
use Rattle.std.specs.Borrow.{Bor}
use Rattle.std.specs.Iterator.{Yields}
use Rattle.std.specs.Map.Iter.{TakesFirst}
use Rattle.std.proofs.lemmas.List.Elements.{All-from_recursion, All-map}
use Rattle.std.proofs.lemmas.Map.Iter.{rest_more, rest_so_far}
use Rattle.mp_tickets.specs.Tickets.{IsRising, shown}
use Rattle.mp_tickets.proofs.Rising.{rising_before}
use Rattle.mp_seqpool.specs.ValidatedTx.{ValidatedTx, ticketed}

-- the items visited before, the current one and the remaining ones are all
pub turn : (all s t u : List (ℕ × ValidatedTx)) (xs : List (ℕ × Bor ValidatedTx)) (r : Option (ℕ × Bor ValidatedTx)) (x : ℕ × Bor ValidatedTx) → s ≡ all → Yields (TakesFirst shown) s xs t → r ≡ Some x → TakesFirst shown t r u → all ≡ map shown xs ++ shown x ∷ u
turn all s t u xs r x start y is step = sym start ∙ rest_so_far shown xs s t y ∙ ap (λ l. map shown xs ++ l) (rest_more shown t u r x is step)

-- all tickets visited before are below the current one
pub below_turn : (all s t u : List (ℕ × ValidatedTx)) (xs : List (ℕ × Bor ValidatedTx)) (r : Option (ℕ × Bor ValidatedTx)) (x : ℕ × Bor ValidatedTx) → IsRising all → s ≡ all → Yields (TakesFirst shown) s xs t → r ≡ Some x → TakesFirst shown t r u → All (λ i. i.0 < x.0) (ticketed (map shown xs))
below_turn all s t u xs r x rising start y is step =
    All-map (λ i. i.0 < x.0) (λ e. (e.0, e.1.tx)) (map shown xs) (All-from_recursion (λ e. e.0 < x.0) (map shown xs) (rising_before 0 (map shown xs) (shown x) u (subst IsRising (turn all s t u xs r x start y is step) rising)))

-- one more item was visited
pub ticketed-last : (xs : List (ℕ × Bor ValidatedTx)) (x : ℕ × Bor ValidatedTx) → ticketed (map shown (xs ++ x ∷ [])) ≡ ticketed (map shown xs) ++ (x.0, x.1.now.tx) ∷ []
ticketed-last [] x = refl
ticketed-last (y ∷ xs) x = ap (λ l. (y.0, y.1.now.tx) ∷ l) (ticketed-last xs x)
