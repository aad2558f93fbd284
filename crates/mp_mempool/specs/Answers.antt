-- Every answer is the slow pool's at a point of one history, and what the caller has then seen extends what it had seen.
use Rattle.std.specs.Prelude.{◌≡◌, ◌≢◌, ℕ, ◌<◌, List, ◌++◌, length, All, Some, IfSome, Ok, Err}
use Rattle.mp_rules.specs.Verifier.{Accepts}
use Rattle.mp_seqpool.specs.declared.refusal.Refusal as pool
use Rattle.mp_seqpool.specs.declared.refusal.Refusal.TheVariants as refusals
use Rattle.mp_seqpool.specs.Refusal as sequential
use Rattle.mp_seqpool.specs.Command.{Command}
use Rattle.mp_seqpool.specs.SlowPool.{answer}
use Rattle.mp_history.specs.Entry.{Entry}
use Rattle.mp_history.specs.Log.{Log, Begins, IsLegalLog, entered, last_of, state_after}
use Rattle.mp_mempool.specs.Pass.{Pass, IsEntryOf}
use Rattle.mp_mempool.specs.Seen.{continued, seen}
use Rattle.mp_mempool.specs.declared.refusal.Refusal.{Refusal}
use Rattle.mp_mempool.specs.declared.refusal.Refusal.TheVariants.{Pool, Foreign}

-- the caller has seen these entries, and then made its own
abbrev pub with_entry : Pass → List Entry → Entry → Pass
with_entry p others e = record p { front = entered (continued p.front others) e; last = Some (length (p.front.entries ++ others)) }

-- Others made these entries, and the caller made none that its pass doesn't know.
pub record AreOthers (p : Pass) (others : List Entry) : Type 0 where
  pub alone : All (λ e. e.caller ≢ p.caller) others
  pub known : last_of p.caller (p.front.entries ++ others) ≡ p.last

-- The history has an entry of the caller that its pass doesn't know.
pub record IsForeign (p : Pass) (log : Log) : Type 0 where
  pub begins : Begins p.front log
  pub place : ℕ
  pub own : IsEntryOf p.caller log place
  pub unknown : IfSome p.last (λ known. known < place)

abbrev pub number : {N : Type 0} → Refusal N → ℕ
number (Pool refusal) = sequential.number refusal
number (Foreign front) = 7

-- The verifier decides which signatures are good.
module _ (accepts : Accepts) (callers : ℕ) where
  -- A call that changed the pool, with the pass before, the command, the receipt and the pass after.
  pub record IsEntered (before : Pass) (command : Command) (place : ℕ) (e : Entry) (after : Pass) : Type 0 where
    -- the entries committed since
    pub others : List Entry
    pub by_others : AreOthers before others
    -- the caller has now seen these and then its own entry
    pub pass : after ≡ with_entry before others e
    -- the pool may have had this history
    pub legal : IsLegalLog accepts callers after.front
    pub caller : e.caller ≡ before.caller
    pub asked : e.command ≡ command
    -- the reply is the slow pool's, just before the entry
    pub reply : answer accepts (state_after accepts (continued before.front others)) command ≡ Ok e.reply
    pub at : place ≡ length (before.front.entries ++ others)

  -- A call that the slow pool refuses, at the history that its caller has then seen.
  pub record IsRefusedAt (before : Pass) (command : Command) (refusal : pool.Refusal) (after : Pass) : Type 0 where
    -- the entries committed since
    pub others : List Entry
    pub by_others : AreOthers before others
    pub pass : after ≡ seen before others
    pub legal : IsLegalLog accepts callers after.front
    pub refused : answer accepts (state_after accepts after.front) command ≡ Err refusal

  -- What a refusal guarantees. After an allocation failure it is only that the pass is as it was.
  abbrev pub IsRefused : {N : Type 0} → Pass → Command → Refusal N → Pass → Type 0
  IsRefused before command (Pool refusals.NoMemory) after = after ≡ before
  IsRefused before command (Pool refusal) after = IsRefusedAt before command refusal after
  IsRefused before command (Foreign front) after = IsForeign before front × (after ≡ before)

-- the refusal carries this history, or its caller has now seen it; after an allocation failure, its pass knows all its entries
-- there
abbrev pub IsOfLog : {N : Type 0} → Log → Refusal N → Pass → Type 0
IsOfLog log (Pool refusals.NoMemory) after = last_of after.caller log.entries ≡ after.last
IsOfLog log (Pool refusal) after = after.front ≡ log
IsOfLog log (Foreign front) after = front ≡ log
