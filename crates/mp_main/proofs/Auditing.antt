-- The end of an audit.
use Rattle.std.proofs.Common.{◌≡◌, ℕ, List, sym, subst, inl, inr}
use Rattle.std.specs.Prelude.{Option, None, Some, IfSome, IfErr, OnOk, Result, Ok, Err}
use Rattle.std.specs.Io.KnownBytes.{Keeps}
use Rattle.mp_mempool.specs.Opening.{fresh_log}
use Rattle.mp_rules.specs.Verifier.{Accepts}
use Rattle.mp_race.specs.declared.fault.RaceFault.{RaceFault}
use Rattle.mp_race.specs.declared.fault.RaceFault.TheVariants.{NoMemory, BadLine, ReadFault, WriteFault, Audit, MissingEntry}
use Rattle.mp_race.specs.declared.history.RecordedHistory.{RecordedHistory}
use Rattle.mp_race.specs.Scenario.{Scenario}
use Rattle.mp_race.specs.History.{IsHistory, IsFaultOfHistory}
use Rattle.mp_race.specs.HistoryText.{history_text}
use Rattle.mp_race.specs.HistoryRead.{IsRead}
use Rattle.mp_main.specs.Status.{EndsAs}
use Rattle.mp_main.specs.Legal.{IsAudited, IsSaid, IsLegalText, IsFaultyText}
use Rattle.mp_main.proofs.Ends.{keeps}

module _ (accepts : Accepts) (s : Scenario) where
  -- what the audit of the history returns
  abbrev pub IsAnswer : RecordedHistory → Result (Unit {0}) RaceFault → Type 0
  IsAnswer h a =
      OnOk a (IsHistory accepts (fresh_log s.config s.ledger).opening h.workers s.tasks h.told.items)
      × IfErr a (IsFaultOfHistory accepts (fresh_log s.config s.ledger).opening h.workers s.tasks h.told.items)

  faulty : (bytes : List ℕ) (h : RecordedHistory) (fault : RaceFault) → bytes ≡ history_text h.workers h.told.items
      → IsFaultOfHistory accepts (fresh_log s.config s.ledger).opening h.workers s.tasks h.told.items fault → IsFaultyText accepts s bytes fault
  faulty bytes h fault is of = record { workers = h.workers; told = h.told.items; text_is = is; faulty = of }

  legal : (bytes : List ℕ) (h : RecordedHistory) → bytes ≡ history_text h.workers h.told.items
      → IsHistory accepts (fresh_log s.config s.ledger).opening h.workers s.tasks h.told.items → IsLegalText accepts s bytes
  legal bytes h is of = record { workers = h.workers; told = h.told.items; text_is = is; legal = of }

  found : (bytes : List ℕ) (h : RecordedHistory) (old new : Option (List ℕ)) (fault : RaceFault) → bytes ≡ history_text h.workers h.told.items
      → IsFaultOfHistory accepts (fresh_log s.config s.ledger).opening h.workers s.tasks h.told.items fault → Keeps old new → IsAudited accepts s bytes old new (Err fault)
  found bytes h old new NoMemory is of kept = kept
  found bytes h old new (BadLine line) is of kept = absurd of
  found bytes h old new ReadFault is of kept = absurd of
  found bytes h old new WriteFault is of kept = absurd of
  found bytes h old new (Audit fault) is of kept = (faulty bytes h (Audit fault) is of, kept)
  found bytes h old new (MissingEntry place) is of kept = (inr (faulty bytes h (MissingEntry place) is of), kept)

  said : (bytes : List ℕ) (h : RecordedHistory) (old new : Option (List ℕ)) (a r : Result (Unit {0}) RaceFault) → bytes ≡ history_text h.workers h.told.items → IsAnswer h a → IsSaid old new a r → IsAudited accepts s bytes old new r
  said bytes h old new (Ok u) (Ok v) is of says = (legal bytes h is of.0, says)
  said bytes h old new (Ok u) (Err NoMemory) is of says = absurd says
  said bytes h old new (Ok u) (Err (BadLine line)) is of says = absurd says
  said bytes h old new (Ok u) (Err ReadFault) is of says = absurd says
  said bytes h old new (Ok u) (Err WriteFault) is of says = (legal bytes h is of.0, says)
  said bytes h old new (Ok u) (Err (Audit fault)) is of says = absurd says
  said bytes h old new (Ok u) (Err (MissingEntry place)) is of says = absurd says
  said bytes h old new (Err fault) (Ok v) is of says = absurd says
  said bytes h old new (Err fault) (Err other) is of says = subst (λ f. IsAudited accepts s bytes old new (Err f)) (sym says.0) (found bytes h old new fault is of.1 says.1)

  -- the bytes are read as this history
  pub audited : (known : Option (List ℕ)) (h : RecordedHistory) (old new : Option (List ℕ)) (a : Result (Unit {0}) RaceFault) (status : ℕ) → IfSome known (λ bytes. bytes ≡ history_text h.workers h.told.items) → IsAnswer h a
      → EndsAs (IsSaid old new a) status → IfSome known (λ bytes. EndsAs (IsAudited accepts s bytes old new) status)
  audited None h old new a status is of says = tt
  audited (Some bytes) h old new a status is of says = (says.0, said bytes h old new a says.0 is of says.1, says.2)

  none_read : (bytes : List ℕ) (old : Option (List ℕ)) (fault : RaceFault) → IsRead bytes (Err fault) → IsAudited accepts s bytes old old (Err fault)
  none_read bytes old NoMemory is = keeps old
  none_read bytes old ReadFault is = keeps old
  none_read bytes old WriteFault is = absurd is
  none_read bytes old (BadLine line) is = (is, keeps old)
  none_read bytes old (Audit fault) is = absurd is
  none_read bytes old (MissingEntry place) is = (inl is, keeps old)

  -- no history can be read from the bytes
  pub unread : (known old : Option (List ℕ)) (fault : RaceFault) (status : ℕ) → IfSome known (λ bytes. IsRead bytes (Err fault)) → status ≡ 1 → IfSome known (λ bytes. EndsAs (IsAudited accepts s bytes old old) status)
  unread None old fault status is one = tt
  unread (Some bytes) old fault status is one = (Err fault, none_read bytes old fault is, one)
