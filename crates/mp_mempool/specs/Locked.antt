-- What the lock of a pool guards.
use Rattle.std.specs.Prelude.{◌≡◌, Option, None, Some}
use Rattle.mp_utxo.specs.Overlay.{Room}
use Rattle.mp_rules.specs.Verifier.{Accepts}
use Rattle.mp_seqpool.specs.Pool.{Holding}
use Rattle.mp_history.specs.Log.{Log, state_after}

pub record Locked : Type 0 where
  -- the history
  pub log : Log
  -- the room that the sequential pool has for its next step
  pub room : Room
  -- the history of the version that waits to be published
  pub waiting : Option Log
  -- the history of the version that was published last
  pub published : Log

-- the sequential pool, which is the slow pool after the history
abbrev pub holding : Accepts → Locked → Holding
holding accepts l = record { pool = state_after accepts l.log; room = l.room }

-- the version after the whole history is published, or waits for that
abbrev pub IsKept : Log → Option Log → Log → Type 0
IsKept log None published = published ≡ log
IsKept log (Some waiting) published = waiting ≡ log

-- the history of the last published version, once the one that waits is published too
abbrev pub last_published : Option Log → Log → Log
last_published None published = published
last_published (Some waiting) published = waiting

-- what the lock guards, once the version that waits is published
abbrev pub with_published : Locked → Locked
with_published l = record l { waiting = None; published = last_published l.waiting l.published }
