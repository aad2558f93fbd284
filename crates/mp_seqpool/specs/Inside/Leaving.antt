-- Taking items out of a pool.
use Rattle.std.specs.Prelude.{◌≡◌, ◌≢◌, ℕ, ◌+◌, ◌≤◌, not, List, map, sum_by, All, AllPairs}
use Rattle.std.specs.List.{filter}
use Rattle.mp_tx.specs.Spelling.{id_of, size_of}
use Rattle.mp_rules.specs.Checked.{WasValid}
use Rattle.mp_tickets.specs.Tickets.{IsRising, has_ticket}
use Rattle.mp_seqpool.specs.ValidatedTx.{ValidatedTx, ticketed}
use Rattle.mp_seqpool.specs.Keep.{transactions, tickets}
use Rattle.mp_seqpool.specs.declared.command.Reply.{Reply}
use Rattle.mp_seqpool.specs.Prepared.{left_by}

abbrev pub bytes_in : List (ℕ × ValidatedTx) → ℕ
bytes_in items = sum_by size_of (transactions (ticketed items))

-- tickets are strictly increasing, and no id occurs twice
pub record AreKnown (items : List (ℕ × ValidatedTx)) : Type 0 where
  pub rising : IsRising items
  pub distinct : AllPairs (λ a b. a ≢ b) (map id_of (transactions (ticketed items)))

-- the items without those with these tickets
abbrev pub lacking : List ℕ → List (ℕ × ValidatedTx) → List (ℕ × ValidatedTx)
lacking gone items = filter (λ e. not (has_ticket gone e.0)) items

-- the items with these tickets are taken out, and this is the number of their bytes
pub record TakesOut (gone : List ℕ) (old new : List (ℕ × ValidatedTx)) (count : ℕ) : Type 0 where
  pub items : new ≡ lacking gone old
  pub known : AreKnown new
  pub bytes : bytes_in new + count ≡ bytes_in old

-- what the reply names is taken out
pub record Leaves (reply : Reply) (old new : List (ℕ × ValidatedTx)) (count : ℕ) : Type 0 where
  pub items : ticketed new ≡ left_by reply (ticketed old)
  pub known : AreKnown new
  pub bytes : bytes_in new + count ≡ bytes_in old
  pub valid : All (λ e. WasValid e.1.tx e.1.resolved) old → All (λ e. WasValid e.1.tx e.1.resolved) new
  pub given : (n : ℕ) → All (λ k. k ≤ n) (tickets (ticketed old)) → All (λ k. k ≤ n) (tickets (ticketed new))
