-- What holds of every history of the core.
use Rattle.std.specs.Prelude.{◌≡◌, ℕ, ◌<◌, ◌≤◌, ◌-◌, List, [], ◌∷◌, ◌++◌, length, take, All, IfSome, Some, Ok, Err}
use Rattle.mp_rules.specs.Verifier.{Accepts}
use Rattle.mp_seqpool.specs.declared.command.Reply.{Reply}
use Rattle.mp_seqpool.specs.declared.refusal.Refusal.{Refusal}
use Rattle.mp_seqpool.specs.Command.{Command}
use Rattle.mp_seqpool.specs.Pool.{Pool}
use Rattle.mp_seqpool.specs.SlowPool.{answer}
use Rattle.mp_seqpool.specs.PoolLaws.{ObeysLaws}
use Rattle.mp_history.specs.Entry.{Entry}
use Rattle.mp_history.specs.Log.{IsLegal, commands, pool_of, last_of}
use Rattle.mp_history.specs.World.{Version, World, Event, Commit, Answer, opens, step, run, commits}

-- the caller is one of them and has the lock
pub record HasLock (callers : ℕ) (w : World) (caller : ℕ) : Type 0 where
  pub known : caller < callers
  pub holds : w.holder ≡ Some caller

-- The verifier decides which signatures are good.
module _ (accepts : Accepts) where
  -- the version numbered n is the state after the first n entries
  pub record IsTrueVersion (p : Pool) (log : List Entry) (v : Version) : Type 0 where
    pub within : v.number ≤ length log
    pub same : v.state ≡ pool_of accepts p (take v.number log)

  -- a commit that is permitted, from one world to the next
  pub record IsCommit (p : Pool) (w v : World) (caller : ℕ) (command : Command) (reply : Reply) : Type 0 where
    -- its entry comes last
    pub entry : v.log ≡ w.log ++ record { caller = caller; command = command; reply = reply } ∷ []
    -- the caller holds the version with it
    pub number : (v.held caller).number ≡ length v.log
    -- its reply is the reference pool's on that version's log without its last entry
    pub before : answer accepts (pool_of accepts p (take ((v.held caller).number - 1) v.log)) command ≡ Ok reply

  -- an answer that is permitted, from one world to the next
  pub record IsAnswer (p : Pool) (w v : World) (caller : ℕ) (command : Command) (refusal : Refusal) : Type 0 where
    -- nothing is appended
    pub entry : v.log ≡ w.log
    -- the caller holds the version of all entries
    pub number : (v.held caller).number ≡ length v.log
    -- that version's state gives the same refusal
    pub same : answer accepts (v.held caller).state command ≡ Err refusal
    -- the state after that version's entries does too
    pub after : answer accepts (pool_of accepts p (take (v.held caller).number v.log)) command ≡ Err refusal

  -- the world after any events, from the state with which a pool opens
  pub record CoreLaw (callers : ℕ) (p : Pool) (es : List Event) (w : World) : Type 0 where
    -- the log is legal
    pub legal : IsLegal accepts callers p w.log
    -- every state on the way obeys the pool laws
    pub lawful : ObeysLaws accepts p (commands w.log)
    -- the locked state is the one after all entries
    pub locked : w.locked ≡ pool_of accepts p w.log
    -- each caller holds a true version
    pub held : (caller : ℕ) → IsTrueVersion p w.log (w.held caller)
    -- the version that waits for publication is true
    pub waiting : IfSome w.waiting (IsTrueVersion p w.log)
    -- the versions on the board are true
    pub board : All (IsTrueVersion p w.log) w.board
    -- the versions that were ever held are true
    pub ever : All (IsTrueVersion p w.log) w.ever
    -- the log has the entries of the commits, each once and in order
    pub entries : w.log ≡ commits accepts callers (opens p) es
    -- a caller's last place is that of its last entry
    pub last : (caller : ℕ) → w.last caller ≡ last_of caller w.log
    -- the version that a caller holds contains its own last entry
    pub own : (caller : ℕ) → IfSome (w.last caller) (λ place. place < (w.held caller).number)
    -- whatever happens later, the number of a version that a caller holds never decreases
    pub growing : (further : List Event) (caller : ℕ) → (w.held caller).number ≤ ((run accepts callers w further).held caller).number
    -- whatever happens later, entries are only appended
    pub later : (further : List Event) → (run accepts callers w further).log ≡ w.log ++ commits accepts callers w further
    -- the effect of a commit that comes next
    pub commit : (caller : ℕ) (command : Command) (reply : Reply) → HasLock callers w caller → answer accepts w.locked command ≡ Ok reply →
        IsCommit p w (step accepts callers w (Commit caller command)) caller command reply
    -- the effect of an answer that comes next
    pub answer_told : (caller : ℕ) (command : Command) (refusal : Refusal) → HasLock callers w caller → answer accepts w.locked command ≡ Err refusal →
        IsAnswer p w (step accepts callers w (Answer caller command)) caller command refusal
