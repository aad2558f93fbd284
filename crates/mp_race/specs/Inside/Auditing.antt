-- The record at one place of a history.
use Rattle.std.specs.Prelude.{◌≡◌, ◌≢◌, ◌⊎◌, ℕ, ◌<◌, List, length, take, HoldsAt, Some}
use Rattle.mp_rules.specs.Verifier.{Accepts}
use Rattle.mp_seqpool.specs.Pool.{Pool}
use Rattle.mp_history.specs.Entry.{Entry}
use Rattle.mp_history.specs.AuditFault.{first_fault}
use Rattle.mp_history.specs.declared.fault.AuditFault.TheVariants as audit
use Rattle.mp_race.specs.declared.fault.RaceFault.{RaceFault}
use Rattle.mp_race.specs.declared.fault.RaceFault.TheVariants.{NoMemory, BadLine, ReadFault, WriteFault, Audit, MissingEntry}
use Rattle.mp_race.specs.declared.told.Told.{Told}
use Rattle.mp_race.specs.Task.{Task}
use Rattle.mp_race.specs.History.{IsUndealt, IsLate, next_of}

-- why the record at this place is no entry there
abbrev pub IsUnfit : ℕ → List Task → List ℕ → ℕ → Told → RaceFault → Type 0
IsUnfit workers ts next place t NoMemory = Unit {0}
IsUnfit workers ts next place t (BadLine line) = ⊥
IsUnfit workers ts next place t ReadFault = ⊥
IsUnfit workers ts next place t WriteFault = ⊥
IsUnfit workers ts next place t (Audit audit.NoMemory) = ⊥
IsUnfit workers ts next place t (Audit (audit.WrongReply p)) = ⊥
IsUnfit workers ts next place t (Audit (audit.StrangeCaller p)) = (p ≡ place) × (t.place ≡ place) × (IsUndealt workers ts t ⊎ IsLate next t)
IsUnfit workers ts next place t (MissingEntry p) = (p ≡ place) × (t.place ≢ place)

-- The record at this place is no entry there, with the reason.
pub record EndsAt (workers : ℕ) (ts : List Task) (told : List Told) (place : ℕ) (fault : RaceFault) : Type 0 where
  pub there : place < length told
  pub unfit : HoldsAt (λ t. IsUnfit workers ts (next_of (take place told)) place t fault) told place

-- why entries aren't legal: a reply is wrong; any allocation may fail
abbrev pub IsOfReplay : Accepts → ℕ → Pool → List Entry → RaceFault → Type 0
IsOfReplay accepts workers opening es NoMemory = Unit {0}
IsOfReplay accepts workers opening es (BadLine line) = ⊥
IsOfReplay accepts workers opening es ReadFault = ⊥
IsOfReplay accepts workers opening es WriteFault = ⊥
IsOfReplay accepts workers opening es (Audit audit.NoMemory) = ⊥
IsOfReplay accepts workers opening es (Audit (audit.WrongReply p)) = first_fault accepts workers opening es ≡ Some (audit.WrongReply p)
IsOfReplay accepts workers opening es (Audit (audit.StrangeCaller p)) = ⊥
IsOfReplay accepts workers opening es (MissingEntry p) = ⊥
