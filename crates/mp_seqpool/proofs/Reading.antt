-- What is read of a pool's items is read of its transactions.
use Rattle.std.proofs.Common.{◌≡◌, ℕ, Bool, true, false, List, [], ◌∷◌, refl, ap, if◌then◌else◌}
use Rattle.std.specs.Prelude.{nat_eq, nat_lt, option_map}
use Rattle.std.proofs.lemmas.Map.Made.{lookup-map_values}
use Rattle.mp_tx.specs.Transaction.{Transaction}
use Rattle.mp_tickets.specs.Tickets.{item_at, after}
use Rattle.mp_seqpool.specs.ValidatedTx.{ValidatedTx, ticketed}

pub item_ticketed : (items : List (ℕ × ValidatedTx)) (ticket : ℕ) → item_at (ticketed items) ticket ≡ option_map (λ v. v.tx) (item_at items ticket)
item_ticketed items ticket = lookup-map_values (λ (v : ValidatedTx). v.tx) (λ k. nat_eq k ticket) items

after_step : (b : Bool) (e : ℕ × ValidatedTx) (es : List (ℕ × ValidatedTx)) (others : List (ℕ × Transaction))
    → ticketed es ≡ others → ticketed (if b then e ∷ es else es) ≡ (if b then (e.0, e.1.tx) ∷ others else others)
after_step true e es others h = ap (λ l. (e.0, e.1.tx) ∷ l) h
after_step false e es others h = h

pub after_ticketed : (items : List (ℕ × ValidatedTx)) (ticket : ℕ) → ticketed (after items ticket) ≡ after (ticketed items) ticket
after_ticketed [] ticket = refl
after_ticketed (e ∷ es) ticket = after_step (nat_lt ticket e.0) e (after es ticket) (after (ticketed es) ticket) (after_ticketed es ticket)
