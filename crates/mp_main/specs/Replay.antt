-- The result of auditing the history of a served pool.
use Rattle.std.specs.Prelude.{◌≡◌, ℕ, List, Option, Result, Ok, Err}
use Rattle.std.specs.Io.KnownBytes.{Appends, Keeps}
use Rattle.mp_text.specs.Output.{AppendsFront}
use Rattle.mp_serve.specs.declared.conversation.Conversation.{Conversation}
use Rattle.mp_replay.specs.declared.fault.ReplayFault.{ReplayFault}
use Rattle.mp_replay.specs.ServedHistory.{IsServedHistory}
use Rattle.mp_replay.specs.ReplayFault.{IsReplayFault}
use Rattle.mp_main.specs.Legal.{legal_text}

-- why the program doesn't end with status 0
pub data ReplayStop : Type 0 where
  -- a read or an allocation fails
  Unread : ReplayStop
  -- a write fails
  Unwritten : ReplayStop
  -- the history isn't legal, or an allocation fails
  Faulty : ReplayFault → ReplayStop

-- what is written about the result of a replay
abbrev pub IsReplaySaid : Option (List ℕ) → Option (List ℕ) → Result (Unit {0}) ReplayFault → Result (Unit {0}) ReplayStop → Type 0
IsReplaySaid old new (Ok u) (Ok v) = Appends old new legal_text
IsReplaySaid old new (Ok u) (Err Unread) = ⊥
IsReplaySaid old new (Ok u) (Err Unwritten) = AppendsFront old new legal_text
IsReplaySaid old new (Ok u) (Err (Faulty fault)) = ⊥
IsReplaySaid old new (Err fault) (Ok v) = ⊥
IsReplaySaid old new (Err fault) (Err Unread) = ⊥
IsReplaySaid old new (Err fault) (Err Unwritten) = ⊥
IsReplaySaid old new (Err fault) (Err (Faulty other)) = (other ≡ fault) × Keeps old new

-- a legal history is said to be so; of another nothing is written, and the fault is its first
abbrev pub IsReplayAudited : Conversation → List ℕ → Option (List ℕ) → Option (List ℕ) → Result (Unit {0}) ReplayStop → Type 0
IsReplayAudited c text old new (Ok u) = IsServedHistory c text × Appends old new legal_text
IsReplayAudited c text old new (Err Unread) = Keeps old new
IsReplayAudited c text old new (Err Unwritten) = IsServedHistory c text × AppendsFront old new legal_text
IsReplayAudited c text old new (Err (Faulty fault)) = IsReplayFault c text fault × Keeps old new
