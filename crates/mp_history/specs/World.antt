-- The core of a pool that many callers share: its possible events, one at a time. One caller at a time holds the lock,
-- and only this caller changes the state. Each change makes a version, which every caller may come to hold.
use Rattle.std.specs.Prelude.{ℕ, ◌==◌, nat_lt, Bool, false, ◌&&◌, List, [], ◌∷◌, ◌++◌, length, Option, None, Some, is_none, Result, Ok, Err, slice_get, if◌then◌else◌}
use Rattle.mp_rules.specs.Verifier.{Accepts}
use Rattle.mp_seqpool.specs.declared.command.Reply.{Reply}
use Rattle.mp_seqpool.specs.declared.refusal.Refusal.{Refusal}
use Rattle.mp_seqpool.specs.Command.{Command}
use Rattle.mp_seqpool.specs.Pool.{Pool}
use Rattle.mp_seqpool.specs.SlowPool.{answer, next}
use Rattle.mp_history.specs.Entry.{Entry}

-- a state of the pool that callers may hold
pub record Version : Type 0 where
  -- the number of entries that led to it
  pub number : ℕ
  -- the state after them
  pub state : Pool

-- what all callers share, and what each of them holds
pub record World : Type 0 where
  -- the entries, in the order in which they were made
  pub log : List Entry
  -- the state that only the lock's holder changes
  pub locked : Pool
  -- the version that waits for publication
  pub waiting : Option Version
  -- the caller that holds the lock
  pub holder : Option ℕ
  -- the published versions, in order
  pub board : List Version
  -- for each caller, the version that it holds
  pub held : ℕ → Version
  -- for each caller, the place of its last entry
  pub last : ℕ → Option ℕ
  -- the versions that any caller ever held
  pub ever : List Version

-- an action of a caller
pub data Event : Type 0 where
  -- it takes the lock
  Take : (caller : ℕ) → Event
  -- it gives a command, which is executed and appended
  Commit : (caller : ℕ) (command : Command) → Event
  -- it gives a command, which is refused
  Answer : (caller : ℕ) (command : Command) → Event
  -- it publishes the version that waits
  Show : (caller : ℕ) → Event
  -- it can't publish a version
  ShowRefused : (caller : ℕ) → Event
  -- it releases the lock
  Release : (caller : ℕ) → Event
  -- it reads the published version with this index
  Read : (caller : ℕ) (which : ℕ) → Event
  -- it learns one of the versions that were ever held, by its index
  Learn : (caller : ℕ) (which : ℕ) → Event

abbrev pub first_version : Pool → Version
first_version p = record { number = 0; state = p }

-- no entries and no holder; all callers hold the opening state, which is published
abbrev pub opens : Pool → World
opens p = record {
  log = [];
  locked = p;
  waiting = None;
  holder = None;
  board = first_version p ∷ [];
  held = λ _. first_version p;
  last = λ _. None;
  ever = first_version p ∷ [];
}

-- the version of the locked state
abbrev pub present : World → Version
present w = record { number = length w.log; state = w.locked }

abbrev pub is_holder : Option ℕ → ℕ → Bool
is_holder None caller = false
is_holder (Some h) caller = h == caller

-- the caller is one of them, and holds the lock
abbrev pub has_lock : ℕ → World → ℕ → Bool
has_lock callers w caller = nat_lt caller callers && is_holder w.holder caller

-- with another value for one caller
abbrev pub put : {A : Type 0} → (ℕ → A) → ℕ → A → ℕ → A
put f caller x c = if c == caller then x else f c

-- the caller holds this version
abbrev pub with_held : World → ℕ → Version → World
with_held w caller v = record w { held = put w.held caller v; ever = w.ever ++ v ∷ [] }

-- the version of the locked state waits for publication
abbrev pub with_waiting : World → World
with_waiting w = record w { waiting = Some (present w) }

-- if the state refuses, the caller holds the version of the locked state
abbrev pub after_answer : World → ℕ → Result Reply Refusal → World
after_answer w caller (Ok reply) = w
after_answer w caller (Err refusal) = with_held w caller (present w)

-- the version that waits, if there is one, is published
abbrev pub after_show : World → Option Version → World
after_show w None = w
after_show w (Some v) = record w { board = w.board ++ v ∷ []; waiting = None }

-- a caller holds the version if it is later than its own
abbrev pub adopt : World → ℕ → Option Version → World
adopt w caller None = w
adopt w caller (Some v) = if nat_lt (w.held caller).number v.number then with_held w caller v else w

-- the entry of a commit
abbrev pub entries_by : ℕ → Command → Result Reply Refusal → List Entry
entries_by caller command (Ok reply) = record { caller = caller; command = command; reply = reply } ∷ []
entries_by caller command (Err refusal) = []

-- The verifier decides which signatures are good.
module _ (accepts : Accepts) where
  -- with the entry appended, and executed
  abbrev pub with_entry : World → Entry → World
  with_entry w e = record w {
    log = w.log ++ e ∷ [];
    locked = next accepts w.locked e.command;
    last = put w.last e.caller (Some (length w.log));
  }

  -- if the state doesn't refuse, the entry is appended to the log, and the caller holds the version after it, which
  -- also waits for publication
  abbrev pub after_commit : World → ℕ → Command → Result Reply Refusal → World
  after_commit w caller command (Ok reply) =
      let v = with_entry w (record { caller = caller; command = command; reply = reply }) in
      with_waiting (with_held v caller (present v))
  after_commit w caller command (Err refusal) = w

  -- The world after an event. One that isn't permitted changes nothing.
  abbrev pub step : ℕ → World → Event → World
  step callers w (Take caller) = if nat_lt caller callers && is_none w.holder then record w { holder = Some caller } else w
  step callers w (Commit caller command) = if has_lock callers w caller then after_commit w caller command (answer accepts w.locked command) else w
  step callers w (Answer caller command) = if has_lock callers w caller then after_answer w caller (answer accepts w.locked command) else w
  step callers w (Show caller) = if has_lock callers w caller then after_show w w.waiting else w
  step callers w (ShowRefused caller) = w
  step callers w (Release caller) = if has_lock callers w caller then record w { holder = None } else w
  step callers w (Read caller which) = if nat_lt caller callers then adopt w caller (slice_get w.board which) else w
  step callers w (Learn caller which) = if nat_lt caller callers then adopt w caller (slice_get w.ever which) else w

  -- after all events, in order
  abbrev pub run : ℕ → World → List Event → World
  run callers w [] = w
  run callers w (e ∷ es) = run callers (step callers w e) es

  -- what an event appends: only a permitted commit appends an entry
  abbrev pub enters : ℕ → World → Event → List Entry
  enters callers w (Commit caller command) = if has_lock callers w caller then entries_by caller command (answer accepts w.locked command) else []
  enters callers w _ = []

  -- the entries of all commits that are permitted, in order
  abbrev pub commits : ℕ → World → List Event → List Entry
  commits callers w [] = []
  commits callers w (e ∷ es) = enters callers w e ++ commits callers (step callers w e) es
