-- Histories of pools, each of which takes over from the one before.
use Rattle.std.specs.Prelude.{◌≡◌, ℕ, List, [], ◌∷◌, All}
use Rattle.std.specs.List.{flat_map}
use Rattle.std.specs.List.Sorted.{IsStrictlyIncreasing}
use Rattle.mp_rules.specs.Verifier.{Accepts}
use Rattle.mp_seqpool.specs.declared.command.Reply.{Reply}
use Rattle.mp_seqpool.specs.declared.command.Reply.TheVariants.{Accepted}
use Rattle.mp_seqpool.specs.Config.{renewed}
use Rattle.mp_seqpool.specs.PoolLaws.{Lasts}
use Rattle.mp_history.specs.Log.{Log, IsLegalLog, state_after}

-- the ticket that a reply gives, if it gives one
abbrev pub ticket_in : Reply → List ℕ
ticket_in (Accepted ticket) = ticket ∷ []
ticket_in other = []

-- the tickets that a history gave, in order
abbrev pub given : Log → List ℕ
given log = flat_map (λ e. ticket_in e.reply) log.entries

-- The verifier decides which signatures are good.
module _ (accepts : Accepts) where
  -- the history of a pool that takes over after this one, with this limit
  abbrev pub successor : ℕ → Log → Log
  successor limit log = record { opening = renewed limit (state_after accepts log); entries = [] }

  -- a history of such a pool
  pub record Succeeds (before log : Log) : Type 0 where
    pub callers : ℕ
    pub limit : ℕ
    pub legal : IsLegalLog accepts callers log
    pub opening : log.opening ≡ (successor limit before).opening

  -- each history is that of a pool that takes over from the one before
  abbrev pub AreSuccessors : Log → List Log → Type 0
  AreSuccessors log [] = Unit {0}
  AreSuccessors log (later ∷ logs) = Succeeds log later × AreSuccessors later logs

  -- What holds however often a pool hands over.
  pub record SuccessorLaw (log : Log) (logs : List Log) : Type 0 where
    -- no ticket is given twice: tickets are strictly increasing through all of the histories
    pub tickets : IsStrictlyIncreasing (flat_map given (log ∷ logs))
    -- a later pool's item with a ticket that was given before is the item that had this ticket then
    pub lasts : All (λ later. Lasts (state_after accepts log) (state_after accepts later)) logs
