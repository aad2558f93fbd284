-- What an audit of a history finds.
use Rattle.std.specs.Prelude.{◌≡◌, ◌≢◌, ◌⊎◌, ℕ, ◌+◌, ◌<◌, ◌≤◌, ◌%◌, List, [], ◌∷◌, length, map, take, get_or, set, replicate, HoldsAt, Some, slice_get}
use Rattle.std.specs.List.{range_with_len, fold}
use Rattle.mp_rules.specs.Verifier.{Accepts}
use Rattle.mp_seqpool.specs.Pool.{Pool}
use Rattle.mp_history.specs.declared.fault.AuditFault.TheVariants.{WrongReply, StrangeCaller}
use Rattle.mp_history.specs.declared.fault.AuditFault.TheVariants as audit
use Rattle.mp_history.specs.Entry.{Entry}
use Rattle.mp_history.specs.Log.{IsLegal}
use Rattle.mp_history.specs.AuditFault.{first_fault}
use Rattle.mp_race.specs.declared.fault.RaceFault.{RaceFault}
use Rattle.mp_race.specs.declared.fault.RaceFault.TheVariants.{NoMemory, BadLine, ReadFault, WriteFault, Audit, MissingEntry}
use Rattle.mp_race.specs.declared.told.Told.{Told}
use Rattle.mp_race.specs.Task.{Task, Change}

-- The record is of this entry: a change of the scenario, by the worker to whom it is dealt, with the reply.
pub record IsEntryOf (workers : ℕ) (ts : List Task) (t : Told) (e : Entry) : Type 0 where
  pub asked : slice_get ts t.task ≡ Some (Change e.command)
  pub dealt : t.task % workers ≡ t.worker
  pub caller : e.caller ≡ t.worker
  pub reply : e.reply ≡ t.reply

-- it isn't a change that is dealt to the worker
abbrev pub IsUndealt : ℕ → List Task → Told → Type 0
IsUndealt workers ts t = (e : Entry) → IsEntryOf workers ts t e → ⊥

-- the records are of these entries, one by one
abbrev pub AreTold : ℕ → List Task → List Told → List Entry → Type 0
AreTold workers ts [] [] = Unit {0}
AreTold workers ts (t ∷ told) (e ∷ es) = IsEntryOf workers ts t e × AreTold workers ts told es
AreTold workers ts _ _ = ⊥

-- for each worker, the least command that may come next: the one after its last
abbrev pub next_after : List ℕ → Told → List ℕ
next_after next t = set next t.worker (t.task + 1)

-- before any entry, and after these records
abbrev pub first_next : List ℕ
first_next = replicate 64 0

abbrev pub next_of : List Told → List ℕ
next_of told = fold next_after first_next told

-- each worker's commands come in order, each once
abbrev pub AreInTurn : List ℕ → List Told → Type 0
AreInTurn next [] = Unit {0}
AreInTurn next (t ∷ told) = (get_or next t.worker 0 ≤ t.task) × AreInTurn (next_after next t) told

-- the command doesn't come after its worker's last
abbrev pub IsLate : List ℕ → Told → Type 0
IsLate next t = t.task < get_or next t.worker 0

-- the records are of these entries, in turn, and each place is the next one
pub record AreEntriesOf (workers : ℕ) (ts : List Task) (told : List Told) (es : List Entry) : Type 0 where
  pub entries : AreTold workers ts told es
  pub turns : AreInTurn first_next told
  pub places : map (λ t. t.place) told ≡ range_with_len 0 (length told)

-- The verifier decides which signatures are good.
module _ (accepts : Accepts) (opening : Pool) (workers : ℕ) (ts : List Task) where
  -- the records are a legal history of a pool with this opening
  pub record IsHistory (told : List Told) : Type 0 where
    pub entries : List Entry
    pub are : AreEntriesOf workers ts told entries
    pub legal : IsLegal accepts workers opening entries

  -- Up to this place the records are a history, and the record there is bad.
  pub record IsBadAt (Bad : Told → Type 0) (told : List Told) (place : ℕ) : Type 0 where
    pub there : place < length told
    pub before : IsHistory (take place told)
    pub bad : HoldsAt Bad told place

  -- Up to some place the records are entries, and the first wrong reply is at this place.
  pub record IsWrongAt (told : List Told) (place : ℕ) : Type 0 where
    pub entries : List Entry
    pub are : AreEntriesOf workers ts (take (length entries) told) entries
    pub wrong : first_fault accepts workers opening entries ≡ Some (WrongReply place)

  -- why the records aren't a history
  abbrev pub IsFaultOfHistory : List Told → RaceFault → Type 0
  IsFaultOfHistory told NoMemory = Unit {0}
  IsFaultOfHistory told (BadLine line) = ⊥
  IsFaultOfHistory told ReadFault = ⊥
  IsFaultOfHistory told WriteFault = ⊥
  IsFaultOfHistory told (Audit audit.NoMemory) = ⊥
  IsFaultOfHistory told (Audit (WrongReply place)) = IsWrongAt told place
  IsFaultOfHistory told (Audit (StrangeCaller place)) =
      IsBadAt (λ t. (t.place ≡ place) × (IsUndealt workers ts t ⊎ IsLate (next_of (take place told)) t)) told place
  IsFaultOfHistory told (MissingEntry place) = IsBadAt (λ t. t.place ≢ place) told place
