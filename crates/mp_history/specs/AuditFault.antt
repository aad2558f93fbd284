-- The fault that an audit finds in a history.
use Rattle.std.specs.Prelude.{◌≡◌, ◌≢◌, ℕ, ◌+◌, ◌<◌, ◌≤◌, ◌==◌, nat_eq, nat_le, Bool, false, ◌&&◌, List, [], ◌∷◌, length, take, Option, None, Some, IfSome, slice_get, Result, Ok, Err, if◌then◌else◌}
use Rattle.std.specs.Option.{option_or}
use Rattle.std.specs.Cmp.Lexicographic.{pointwise}
use Rattle.mp_rules.specs.Verifier.{Accepts}
use Rattle.mp_seqpool.specs.declared.command.Reply.{Reply}
use Rattle.mp_seqpool.specs.declared.command.Reply.TheVariants.{Accepted, Removed, Synced}
use Rattle.mp_seqpool.specs.declared.refusal.Refusal.{Refusal}
use Rattle.mp_seqpool.specs.Pool.{Pool}
use Rattle.mp_seqpool.specs.SlowPool.{answer, next}
use Rattle.mp_history.specs.declared.fault.AuditFault.{AuditFault}
use Rattle.mp_history.specs.declared.fault.AuditFault.TheVariants.{NoMemory, WrongReply, StrangeCaller}
use Rattle.mp_history.specs.Entry.{Entry}
use Rattle.mp_history.specs.Log.{IsLegal, pool_of}

-- of the same kind, and with the same tickets
abbrev pub same_reply : Reply → Reply → Bool
same_reply (Accepted a) (Accepted b) = a == b
same_reply (Removed named dropped) (Removed n d) = pointwise nat_eq named n && pointwise nat_eq dropped d
same_reply (Synced kept dropped) (Synced k d) = pointwise nat_eq kept k && pointwise nat_eq dropped d
same_reply _ _ = false

-- the answer is this reply
abbrev pub is_reply : Result Reply Refusal → Reply → Bool
is_reply (Ok given) reply = same_reply given reply
is_reply (Err refusal) reply = false

abbrev pub number : AuditFault → ℕ
number NoMemory = 1
number (WrongReply place) = 2
number (StrangeCaller place) = 3

-- the caller isn't one of them
abbrev pub IsStrangeCaller : ℕ → Pool → Entry → Type 0
IsStrangeCaller callers p e = callers ≤ e.caller

-- The verifier decides which signatures are good.
module _ (accepts : Accepts) where
  -- the fault of the entry at this index, on the state after those before it
  abbrev pub entry_fault : ℕ → Pool → ℕ → Entry → Option AuditFault
  entry_fault callers p place e =
      if nat_le callers e.caller then Some (StrangeCaller place)
      else if is_reply (answer accepts p e.command) e.reply then None
      else Some (WrongReply place)

  -- the fault of the first entry that has one; the first of them has this index
  abbrev pub fault_from : ℕ → Pool → ℕ → List Entry → Option AuditFault
  fault_from callers p place [] = None
  fault_from callers p place (e ∷ es) =
      option_or (entry_fault callers p place e) (fault_from callers (next accepts p e.command) (place + 1) es)

  abbrev pub first_fault : ℕ → Pool → List Entry → Option AuditFault
  first_fault callers p log = fault_from callers p 0 log

  -- a fault that an audit returns for a history; an allocation failure is always possible
  abbrev pub IsFaultOf : ℕ → Pool → List Entry → AuditFault → Type 0
  IsFaultOf callers p log NoMemory = Unit {0}
  IsFaultOf callers p log fault = first_fault callers p log ≡ Some fault

  -- What the first fault says.

  -- the caller is one of them, and the reply isn't the reference pool's
  pub record IsWrongReply (callers : ℕ) (p : Pool) (e : Entry) : Type 0 where
    pub known : e.caller < callers
    pub wrong : answer accepts p e.command ≢ Ok e.reply

  -- the first bad entry is at this index
  pub record IsFirstAt (callers : ℕ) (p : Pool) (log : List Entry) (place : ℕ) (Bad : Pool → Entry → Type 0) : Type 0 where
    -- the index is in range
    pub there : place < length log
    -- the entries before it are legal
    pub before : IsLegal accepts callers p (take place log)
    -- it is bad on the state after them
    pub bad : IfSome (slice_get log place) (Bad (pool_of accepts p (take place log)))

  abbrev pub IsFirstFault : ℕ → Pool → List Entry → AuditFault → Type 0
  IsFirstFault callers p log NoMemory = ⊥
  IsFirstFault callers p log (WrongReply place) = IsFirstAt callers p log place (IsWrongReply callers)
  IsFirstFault callers p log (StrangeCaller place) = IsFirstAt callers p log place (IsStrangeCaller callers)

  abbrev pub IsIllegal : ℕ → Pool → List Entry → Type 0
  IsIllegal callers p log = IsLegal accepts callers p log → ⊥
