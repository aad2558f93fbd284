-- Prepared steps.
use Rattle.std.specs.Prelude.{◌≡◌, ℕ, ◌<◌, not, List, [], ◌∷◌, All, None, IfSome, Ok}
use Rattle.std.specs.List.{filter}
use Rattle.std.specs.FinMap.{get}
use Rattle.mp_tx.specs.Transaction.{Transaction}
use Rattle.mp_tx.specs.Ledger.{LedgerState}
use Rattle.mp_tx.specs.Spelling.{id_of}
use Rattle.mp_utxo.specs.Overlay.{Overlay, HasRoomFor}
use Rattle.mp_utxo.specs.Leaf.{IsLeaf}
use Rattle.mp_rules.specs.Verifier.{Accepts}
use Rattle.mp_rules.specs.Checked.{WasValid}
use Rattle.mp_tickets.specs.Tickets.{has_ticket, item_at, among}
use Rattle.mp_seqpool.specs.ValidatedTx.{ValidatedTx}
use Rattle.mp_seqpool.specs.Keep.{transactions}
use Rattle.mp_seqpool.specs.declared.command.Reply.{Reply}
use Rattle.mp_seqpool.specs.declared.command.Reply.TheVariants.{Accepted, Removed, Synced}
use Rattle.mp_seqpool.specs.Command.{Command, Submit, Remove, Sync}
use Rattle.mp_seqpool.specs.Pool.{Pool, Holding}
use Rattle.mp_seqpool.specs.SlowPool.{ticket_of, pool_with, pool_upon, HasPlace, answer, next}

-- the effect of a step on the pool
pub data Effect : Type 0 where
  -- the transaction becomes the last one, with the next ticket
  Append : ValidatedTx → Effect
  -- the transactions with these tickets stay, and are exactly what is applied to the ledger state
  Keep : Overlay → List ℕ → Effect
  -- the transactions with these tickets go, and nothing else
  TakeOut : List ℕ → Effect
  -- the same, and the others stay on this ledger state
  Adopt : LedgerState → List ℕ → Effect

pub record Prepared : Type 0 where
  pub command : Command
  pub reply : Reply
  pub effect : Effect

-- the items without these tickets
abbrev pub apart : List ℕ → List (ℕ × Transaction) → List (ℕ × Transaction)
apart tickets items = filter (λ i. not (has_ticket tickets i.0)) items

abbrev pub changed : Pool → Effect → Pool
changed p (Append item) = pool_with p item.tx
changed p (Keep overlay kept) = pool_upon p overlay.ledger (among kept p.items)
changed p (TakeOut gone) = pool_upon p p.ledger (apart gone p.items)
changed p (Adopt ledger gone) = pool_upon p ledger (apart gone p.items)

-- the state that it leads to
abbrev pub leads_to : Pool → Prepared → Pool
leads_to p q = changed p q.effect

-- the items that the reply leaves
abbrev pub left_by : Reply → List (ℕ × Transaction) → List (ℕ × Transaction)
left_by (Accepted ticket) items = items
left_by (Removed named dropped) items = apart dropped (apart named items)
left_by (Synced kept dropped) items = apart dropped items

-- the state to which a command leads, by its reply
abbrev pub told : Pool → Command → Reply → Pool
told p (Submit t) reply = pool_with p t
told p (Remove ids) reply = pool_upon p p.ledger (left_by reply p.items)
told p (Sync ledger) reply = pool_upon p ledger (left_by reply p.items)

-- the pool can add the item without memory, and without a check of its rules
pub record CanAppend (h : Holding) (item : ValidatedTx) : Type 0 where
  pub place : HasPlace h.pool item.tx
  pub new : ticket_of (id_of item.tx) h.pool.items ≡ None
  pub room : HasRoomFor h.room item.tx
  pub valid : WasValid item.tx item.resolved

-- no other transaction of the pool depends on the one with the ticket
abbrev pub IsLeafAt : Pool → ℕ → Type 0
IsLeafAt p ticket = IfSome (item_at p.items ticket) (IsLeaf (get p.ledger.utxo) (transactions p.items))

-- Those with these tickets go one after another, from the last to the first. None of the items that are then left
-- depends on the one that goes.
abbrev pub GoInTurn : LedgerState → List (ℕ × Transaction) → List ℕ → Type 0
GoInTurn ledger items [] = Unit {0}
GoInTurn ledger items (n ∷ ns) =
    IfSome (item_at (apart ns items) n) (IsLeaf (get ledger.utxo) (transactions (apart ns items))) × GoInTurn ledger items ns

-- these were applied to the overlay, with their tickets
pub record HasApplied (overlay : Overlay) (items : List (ℕ × Transaction)) : Type 0 where
  pub applied : overlay.applied ≡ transactions items
  pub under : overlay.items ≡ items

abbrev pub CanChange : Holding → Effect → Type 0
CanChange h (Append item) = CanAppend h item
CanChange h (Keep overlay kept) = HasApplied overlay (among kept h.pool.items)
CanChange h (TakeOut gone) = GoInTurn h.pool.ledger h.pool.items gone
CanChange h (Adopt ledger gone) = All (IsLeafAt h.pool) gone

-- The pool has room for the step, whatever the reference pool says of it.
pub record HasRoom (h : Holding) (q : Prepared) : Type 0 where
  -- one more change may be made
  pub change : h.pool.changes < h.pool.limit
  pub fits : CanChange h q.effect
  -- its effect is that of its command and its reply
  pub tells : leads_to h.pool q ≡ told h.pool q.command q.reply

-- The pool can execute the step: it has room, and the reply is the reference pool's for this state. This holds from the
-- call that prepared it until the next one on this pool, and no longer if the reference pool's answer changes.
pub record IsPrepared (h : Holding) (q : Prepared) : Type 0 where
  pub change : h.pool.changes < h.pool.limit
  pub fits : CanChange h q.effect
  pub tells : leads_to h.pool q ≡ told h.pool q.command q.reply
  -- which signatures were good when it was prepared
  pub accepts : Accepts
  pub reply : answer accepts h.pool q.command ≡ Ok q.reply

-- The step is the reference pool's: it has the command and the reply to it, and leads to the state after it.
pub record Prepares (accepts : Accepts) (h : Holding) (c : Command) (q : Prepared) : Type 0 where
  pub command : q.command ≡ c
  pub reply : answer accepts h.pool c ≡ Ok q.reply
  pub leads : next accepts h.pool c ≡ leads_to h.pool q
  pub prepared : IsPrepared h q
