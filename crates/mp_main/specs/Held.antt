-- How the program ends that holds conversations with an operator and clients, over one pool.
use Rattle.std.specs.Prelude.{◌≡◌, ◌≤◌, ◌⊎◌, ℕ, ◌-◌, ◌^◌, Bool, true, List, Option, Result, Ok, Err, All, take}
use Rattle.mp_rules.specs.Verifier.{Accepts}
use Rattle.mp_signatures.specs.Scheme.{accepted_by}
use Rattle.mp_text.specs.Lines.{lines_of}
use Rattle.mp_history.specs.Log.{Log, Begins, IsLegalLog}
use Rattle.mp_serve.specs.declared.conversation.Conversation as alone
use Rattle.mp_serve.specs.declared.fault.ConversationFault.{ConversationFault}
use Rattle.mp_serve.specs.declared.fault.ConversationFault.TheVariants.{NoMemory, ReadFault, WriteFault, ManyLines}
use Rattle.mp_serve.specs.Served.{Ended, WereAnswered}
use Rattle.mp_clients.specs.declared.opening.Seat.{Seat}
use Rattle.mp_clients.specs.declared.service.Finished.{Finished}
use Rattle.mp_clients.specs.Beginning.{HasCome}
use Rattle.mp_clients.specs.Opening.{HasOpened}
use Rattle.mp_clients.specs.Service.{AreServed, HasSeenOf, KnowsAllOf}
use Rattle.mp_main.specs.Status.{status_of, status_of_all}

-- how the operator's conversation ends before the pool is open: as one alone, but perhaps after more lines
abbrev pub EndedEarly : alone.Conversation → List ℕ → Option (List ℕ) → Option (List ℕ) → Result (Unit {0}) ConversationFault → Type 0
EndedEarly start bytes old new (Ok u) = Ended start bytes old new (Ok u)
EndedEarly start bytes old new (Err ReadFault) = Ended start bytes old new (Err ReadFault)
EndedEarly start bytes old new (Err WriteFault) = Ended start bytes old new (Err WriteFault)
EndedEarly start bytes old new (Err ManyLines) =
    (k : ℕ) × (2 ^ 64 - 2 ≤ k) × WereAnswered start old new (take k (lines_of bytes))
EndedEarly start bytes old new (Err NoMemory) = (k : ℕ) × WereAnswered start old new (take k (lines_of bytes))

module _ (N : Type 0) {D : Type 0} (accepts : Accepts) (callers : ℕ) (input output : D → Option (List ℕ)) where
  -- The pool opened for the operator's line, and all conversations ended. One legal history explains their answers. It has no
  -- further entry of a conversation, if all are known.
  pub record AreHeld (operator : alone.Conversation) (line : List ℕ) (device : D) (clients : List D) (is_known : Bool)
      (finished : List (Finished N D)) : Type 0 where
    pub front : Log
    pub seats : List (Seat N)
    pub opened : HasOpened accepts callers operator front seats
    pub history : Log
    pub legal : IsLegalLog accepts callers history
    pub begins : Begins front history
    pub seen : All (HasSeenOf history) finished
    pub known : is_known ≡ true → All (KnowsAllOf history) finished
    pub served : AreServed accepts callers input output operator line device seats clients finished

  -- the status is that of all conversations, or 1 if an allocation failed before all of them went on
  abbrev pub EndsHeld : alone.Conversation → List ℕ → D → List D → ℕ → Type 0
  EndsHeld operator line device clients status =
      ((is_known : Bool) × (finished : List (Finished N D)) × AreHeld operator line device clients is_known finished
      × (status ≡ status_of_all is_known finished))
      ⊎ (status ≡ 1)

-- the operator's conversation ended before the pool was open, or the pool opened after some lines
abbrev pub EndsShared : (N : Type 0) → {D : Type 0} → ℕ → (D → Option (List ℕ)) → (D → Option (List ℕ)) → alone.Conversation
    → List ℕ → D → List D → ℕ → Type 0
EndsShared N {D} callers input output start bytes device clients status =
    ((now : D) × (ended : Result (Unit {0}) ConversationFault) × EndedEarly start bytes (output device) (output now) ended
    × (status ≡ status_of ended))
    ⊎ ((now : D) × (line : List ℕ) × (operator : alone.Conversation)
    × HasCome start bytes (output device) (output now) line operator (input now)
    × EndsHeld N (accepted_by operator.signatures) callers input output operator line now clients status)
