-- The reference pool: a list and a map. It computes everything from the ledger, at each question. It follows the
-- Mempool API of ouroboros-consensus.
use Rattle.std.specs.Prelude.{◌≡◌, ℕ, ◌+◌, ◌*◌, ◌-◌, ◌^◌, ◌<◌, ◌≤◌, nat_eq, nat_le, nat_lt, Bool, List, [], ◌∷◌, ◌++◌, All, Option, None, Some, Result, Ok, Err, is_ok, if◌then◌else◌}
use Rattle.std.specs.Cmp.Lexicographic.{pointwise}
use Rattle.std.specs.FinMap.{get}
use Rattle.mp_tx.specs.Transaction.{Transaction}
use Rattle.mp_tx.specs.Spelling.{id_of, size_of}
use Rattle.mp_tx.specs.Ledger.{LedgerState}
use Rattle.mp_utxo.specs.Apply.{Unspent, after}
use Rattle.mp_rules.specs.declared.invalid.Invalid.{Invalid}
use Rattle.mp_rules.specs.Verifier.{Accepts}
use Rattle.mp_rules.specs.FirstFault.{first_fault}
use Rattle.mp_rules.specs.Checked.{IsSigned}
use Rattle.mp_seqpool.specs.Keep.{transactions, tickets, bytes_of, named, unnamed, keep, dropped}
use Rattle.mp_seqpool.specs.declared.refusal.Refusal.{Refusal}
use Rattle.mp_seqpool.specs.declared.refusal.Refusal.TheVariants as refusals
use Rattle.mp_seqpool.specs.declared.command.Reply.{Reply}
use Rattle.mp_seqpool.specs.declared.command.Reply.TheVariants.{Accepted, Removed, Synced}
use Rattle.mp_seqpool.specs.Command.{Command, Submit, Remove, Sync}
use Rattle.mp_seqpool.specs.Pool.{Pool}

-- the outputs that can be spent after all transactions of the pool
abbrev pub unspent : Pool → Unspent
unspent p = after (get p.ledger.utxo) (transactions p.items)

abbrev pub bytes_held : Pool → ℕ
bytes_held p = bytes_of p.items

-- twice the ledger's block bytes, less the bytes of the pool
abbrev pub free_bytes : Pool → ℕ
free_bytes p = 2 * p.ledger.block_bytes - bytes_held p

-- the ticket of the transaction with this id
abbrev pub ticket_of : List ℕ → List (ℕ × Transaction) → Option ℕ
ticket_of id [] = None
ticket_of id (i ∷ is) = if pointwise nat_eq id (id_of i.1) then Some i.0 else ticket_of id is

-- the number of changes has reached its limit
abbrev pub is_at_limit : Pool → Bool
is_at_limit p = nat_le p.limit p.changes

abbrev pub answer_rules : Pool → Transaction → Option Invalid → Result Reply Refusal
answer_rules p t None = Ok (Accepted (p.last + 1))
answer_rules p t (Some fault) = Err (refusals.Invalid fault)

-- with the transaction as the last one, and the next ticket
abbrev pub pool_with : Pool → Transaction → Pool
pool_with p t = record p { items = p.items ++ (p.last + 1, t) ∷ []; last = p.last + 1; changes = p.changes + 1 }

-- with these items on this ledger state; the last ticket stays
abbrev pub pool_upon : Pool → LedgerState → List (ℕ × Transaction) → Pool
pool_upon p ledger items = record p { ledger = ledger; items = items; changes = p.changes + 1 }

-- the pool can count one more transaction
pub record HasPlace (p : Pool) (t : Transaction) : Type 0 where
  -- there is a next ticket
  pub ticket : p.last < 2 ^ 64 - 1
  -- one more change may be made
  pub change : p.changes < p.limit
  -- the number of bytes with it is at most the greatest of any pool
  pub bytes : bytes_held p + size_of t ≤ 2 ^ 40

-- the refusal of an answer
abbrev pub refusal_in : Result Reply Refusal → Option Refusal
refusal_in (Ok reply) = None
refusal_in (Err refusal) = Some refusal

-- a pool without transactions
abbrev pub empty_pool : ℕ → ℕ → LedgerState → Pool
empty_pool limit last ledger = record { ledger = ledger; items = []; last = last; changes = 0; limit = limit; opening_ticket = last }

-- The verifier decides which signatures are good.
module _ (accepts : Accepts) where
  -- it accepts all signatures in the pool
  abbrev pub AreSigned : Pool → Type 0
  AreSigned p = All (IsSigned accepts) (transactions p.items)

  abbrev pub answer_new : Pool → Transaction → Option ℕ → Result Reply Refusal
  answer_new p t None =
      if nat_lt (free_bytes p) (size_of t) then Err (refusals.Full (size_of t) (free_bytes p))
      else answer_rules p t (first_fault accepts (unspent p) p.ledger.tick t)
  answer_new p t (Some ticket) = Err (refusals.AlreadyInPool ticket)

  -- what stays after those with these ids and what isn't valid without them are taken out
  abbrev pub left_without : List (List ℕ) → Pool → List (ℕ × Transaction)
  left_without ids p = keep accepts p.ledger (unnamed ids p.items)

  abbrev pub reply_removed : List (List ℕ) → Pool → Reply
  reply_removed ids p = Removed (tickets (named ids p.items)) (dropped accepts p.ledger (unnamed ids p.items))

  -- what stays on another ledger state
  abbrev pub reply_synced : LedgerState → Pool → Reply
  reply_synced ledger p = Synced (tickets (keep accepts ledger p.items)) (dropped accepts ledger p.items)

  -- the reply to a command, or its first refusal
  unfoldable pub answer : Pool → Command → Result Reply Refusal
  answer p (Submit t) =
      if is_at_limit p then Err refusals.HistoryFull
      else if nat_le (2 ^ 64 - 1) p.last then Err refusals.TicketsSpent
      else answer_new p t (ticket_of (id_of t) p.items)
  answer p (Remove ids) = if is_at_limit p then Err refusals.HistoryFull else Ok (reply_removed ids p)
  answer p (Sync ledger) = if is_at_limit p then Err refusals.HistoryFull else Ok (reply_synced ledger p)

  -- the state after a command that isn't refused
  abbrev pub done : Pool → Command → Pool
  done p (Submit t) = pool_with p t
  done p (Remove ids) = pool_upon p p.ledger (left_without ids p)
  done p (Sync ledger) = pool_upon p ledger (keep accepts ledger p.items)

  -- the state after a command: a refusal changes nothing
  unfoldable pub next : Pool → Command → Pool
  next p c = if is_ok (answer p c) then done p c else p

  -- A call returns the reference pool's refusal, or an allocation failure, which is always possible.
  abbrev pub IsRefused : Pool → Command → Refusal → Type 0
  IsRefused p c refusals.NoMemory = Unit {0}
  IsRefused p c refusal = answer p c ≡ Err refusal

  -- the answers to commands in order, and the state after them
  abbrev pub answers : Pool → List Command → List (Result Reply Refusal)
  answers p [] = []
  answers p (c ∷ cs) = answer p c ∷ answers (next p c) cs

  abbrev pub pool_after : Pool → List Command → Pool
  pool_after p [] = p
  pool_after p (c ∷ cs) = pool_after (next p c) cs
