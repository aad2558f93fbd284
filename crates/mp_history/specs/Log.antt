-- Histories that a pool can have.
use Rattle.std.specs.Prelude.{◌≡◌, ℕ, ◌+◌, ◌<◌, ◌==◌, List, [], ◌∷◌, ◌++◌, map, Option, None, Some, option_map, Ok, if◌then◌else◌}
use Rattle.std.specs.Option.{option_or}
use mathlib.Core.List.{IsPrefix}
use Rattle.mp_rules.specs.Verifier.{Accepts}
use Rattle.mp_seqpool.specs.Command.{Command}
use Rattle.mp_seqpool.specs.Pool.{Pool}
use Rattle.mp_seqpool.specs.PoolLaws.{IsLawful}
use Rattle.mp_seqpool.specs.SlowPool.{answer, next, pool_after}
use Rattle.mp_history.specs.Entry.{Entry}

-- one history: the state with which it opened, and the commands and replies since
pub record Log : Type 0 where
  pub opening : Pool
  pub entries : List Entry

-- the history with one more entry
abbrev pub entered : Log → Entry → Log
entered log e = record log { entries = log.entries ++ e ∷ [] }

-- the first is a prefix of the second
pub record Begins (a b : Log) : Type 0 where
  pub opening : a.opening ≡ b.opening
  pub entries : IsPrefix a.entries b.entries

abbrev pub commands : List Entry → List Command
commands log = map (λ e. e.command) log

-- the place of the caller's last entry
abbrev pub last_of : ℕ → List Entry → Option ℕ
last_of caller [] = None
last_of caller (e ∷ es) =
    option_or (option_map (λ place. place + 1) (last_of caller es)) (if caller == e.caller then Some 0 else None)

-- The verifier decides which signatures are good.
module _ (accepts : Accepts) where
  -- an entry that may come after a state
  pub record IsRight (callers : ℕ) (p : Pool) (e : Entry) : Type 0 where
    -- its caller is one of them
    pub known : e.caller < callers
    -- its reply is the reference pool's
    pub true_reply : answer accepts p e.command ≡ Ok e.reply

  -- each entry is right on the state after all before it
  abbrev pub IsLegal : ℕ → Pool → List Entry → Type 0
  IsLegal callers p [] = Unit {0}
  IsLegal callers p (e ∷ es) = IsRight callers p e × IsLegal callers (next accepts p e.command) es

  -- the state after all entries
  abbrev pub pool_of : Pool → List Entry → Pool
  pool_of p log = pool_after accepts p (commands log)

  -- a history that a pool can have, which opened with a lawful state and no changes
  pub record IsLegalLog (callers : ℕ) (log : Log) : Type 0 where
    pub lawful : IsLawful accepts log.opening
    pub unchanged : log.opening.changes ≡ 0
    pub legal : IsLegal callers log.opening log.entries

  -- the state after a history
  abbrev pub state_after : Log → Pool
  state_after log = pool_of log.opening log.entries
