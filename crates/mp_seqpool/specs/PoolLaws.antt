-- The laws of every state of a pool, and of the states of one history.
use Rattle.std.specs.Prelude.{◌≡◌, ◌≢◌, ℕ, ◌+◌, ◌<◌, ◌≤◌, List, map, take, All, AllPairs, Contains, Ok}
use Rattle.std.specs.List.Sorted.{IsStrictlyIncreasing}
use Rattle.std.specs.FinMap.{get}
use Rattle.mp_tx.specs.Spelling.{id_of}
use Rattle.mp_seqpool.specs.declared.command.Reply.TheVariants.{Accepted}
use Rattle.mp_rules.specs.Verifier.{Accepts}
use Rattle.mp_rules.specs.Validity.{Chain}
use Rattle.mp_seqpool.specs.Command.{Command}
use Rattle.mp_seqpool.specs.Keep.{transactions, tickets}
use Rattle.mp_seqpool.specs.Pool.{Pool}
use Rattle.mp_seqpool.specs.SlowPool.{answer, next, pool_after}

-- Two states, p and a later one, q.
pub record Lasts (p q : Pool) : Type 0 where
  -- the last ticket doesn't decrease
  pub last : p.last ≤ q.last
  -- every item of q with a ticket that p had already given is an item of p
  pub kept : All (λ i. i.0 ≤ p.last → Contains p.items i) q.items

-- The verifier decides which signatures are good.
module _ (accepts : Accepts) where
  -- One state.
  pub record IsLawful (p : Pool) : Type 0 where
    -- each transaction is valid on the ledger after all before it
    pub chained : Chain accepts (get p.ledger.utxo) p.ledger.tick (transactions p.items)
    -- tickets are strictly increasing
    pub rising : IsStrictlyIncreasing (tickets p.items)
    -- no ticket is 0
    pub above_zero : All (λ k. 0 < k) (tickets p.items)
    -- no ticket is greater than the last one
    pub given : All (λ k. k ≤ p.last) (tickets p.items)
    -- ids are distinct
    pub distinct : AllPairs (λ a b. a ≢ b) (map id_of (transactions p.items))

  -- One command: a ticket that it gives is the last ticket plus one, and becomes the last ticket.
  abbrev pub GivesNext : Pool → Command → Type 0
  GivesNext p c = (k : ℕ) → answer accepts p c ≡ Ok (Accepted k) → (k ≡ p.last + 1) × ((next accepts p c).last ≡ k)

  -- All states on the way through a list of commands.
  pub record ObeysLaws (p : Pool) (cs : List Command) : Type 0 where
    -- each of them is lawful
    pub lawful : (n : ℕ) → IsLawful (pool_after accepts p (take n cs))
    -- `Lasts` holds for any two of them, the earlier and the later one
    pub lasting : (m n : ℕ) → m ≤ n → Lasts (pool_after accepts p (take m cs)) (pool_after accepts p (take n cs))
    -- whatever command comes there, a ticket that it gives is the next one
    pub next_ticket : (n : ℕ) (c : Command) → GivesNext (pool_after accepts p (take n cs)) c
