-- The end of the audit of a served pool's history.
use Rattle.std.proofs.Common.{◌≡◌, ℕ, List, sym, subst}
use Rattle.std.specs.Prelude.{Option, None, Some, IfSome, IfErr, OnOk, Result, Ok, Err}
use Rattle.mp_serve.specs.declared.conversation.Conversation.{Conversation}
use Rattle.mp_replay.specs.declared.fault.ReplayFault.{ReplayFault}
use Rattle.mp_replay.specs.ServedHistory.{IsServedHistory}
use Rattle.mp_replay.specs.ReplayFault.{IsReplayFault}
use Rattle.mp_main.specs.Status.{EndsAs}
use Rattle.mp_main.specs.Replay.{ReplayStop, Unread, Unwritten, Faulty, IsReplaySaid, IsReplayAudited}

module _ (c : Conversation) (text : List ℕ) (old new : Option (List ℕ)) where
  said : (a : Result (Unit {0}) ReplayFault) (r : Result (Unit {0}) ReplayStop) → OnOk a (IsServedHistory c text) → IfErr a (IsReplayFault c text)
      → IsReplaySaid old new a r → IsReplayAudited c text old new r
  said (Ok u) (Ok v) legal fault says = (legal, says)
  said (Ok u) (Err Unread) legal fault says = absurd says
  said (Ok u) (Err Unwritten) legal fault says = (legal, says)
  said (Ok u) (Err (Faulty f)) legal fault says = absurd says
  said (Err f) (Ok v) legal fault says = absurd says
  said (Err f) (Err Unread) legal fault says = absurd says
  said (Err f) (Err Unwritten) legal fault says = absurd says
  said (Err f) (Err (Faulty other)) legal fault says = (subst (IsReplayFault c text) (sym says.0) fault, says.1)

  -- the replay returns this, and the program says so
  pub replayed : (a : Result (Unit {0}) ReplayFault) (status : ℕ) → OnOk a (IsServedHistory c text) → IfErr a (IsReplayFault c text)
      → EndsAs (IsReplaySaid old new a) status → EndsAs (IsReplayAudited c text old new) status
  replayed a status legal fault ends = (ends.0, said a ends.0 legal fault ends.1, ends.2)

-- what holds of the text holds of the bytes that it was read from
pub of_bytes : (P : List ℕ → Type 0) (known : Option (List ℕ)) (text : List ℕ) → IfSome known (λ bytes. text ≡ bytes) → P text → IfSome known P
of_bytes P None text is holds = tt
of_bytes P (Some bytes) text is holds = subst P is holds
