-- Conversations at once.
use Rattle.std.specs.Prelude.{◌≡◌, ℕ, List, [], ◌∷◌, Option, None, Some, IfSome}
use Rattle.std.specs.Arc.{arc_value}
use Rattle.mp_rules.specs.Verifier.{Accepts}
use Rattle.mp_history.specs.Log.{Log, Begins}
use Rattle.mp_mempool.specs.Answers.{IsForeign}
use Rattle.mp_mempool.specs.Successor.{IsKnownTo}
use Rattle.mp_names.specs.Names.{Names}
use Rattle.mp_session.specs.declared.settings.Settings.{Settings}
use Rattle.mp_session.specs.Settings.{salt_of}
use Rattle.mp_serve.specs.declared.conversation.Conversation as alone
use Rattle.mp_serve.specs.Staged.{Staged, nothing_staged}
use Rattle.mp_clients.specs.declared.connected.Connected.{Connected}
use Rattle.mp_clients.specs.declared.conversation.Conversation.{Conversation}
use Rattle.mp_clients.specs.declared.opening.Seat.{Seat}
use Rattle.mp_clients.specs.declared.service.Finished.{Finished}
use Rattle.mp_clients.specs.Answers.{IsTurn, IsBroken}
use Rattle.mp_clients.specs.Told.{Ended}
use Rattle.mp_clients.specs.Waiting.{line_in, lines_with}

-- A conversation with these names and settings, this seat, what is staged, and the line number.
pub record IsWith {N : Type 0} (names : Names) (settings : Settings) (seat : Seat N) (staged : Staged) (line : ℕ) (c : Conversation N)
    : Type 0 where
  pub names_are : c.names ≡ names
  pub settings_are : arc_value c.settings ≡ settings
  pub client : c.client ≡ seat.client
  pub staged_is : c.staged ≡ staged
  pub most_is : c.most_names ≡ seat.most_names
  pub line_is : c.line ≡ line

-- what the conversation has seen is a prefix of this history
abbrev pub HasSeenOf : {N D : Type 0} → Log → Finished N D → Type 0
HasSeenOf log f = Begins f.conversation.client.pass.front log

-- the conversation knows all entries of its own in this history
abbrev pub KnowsAllOf : {N D : Type 0} → Log → Finished N D → Type 0
KnowsAllOf log f = IsKnownTo log f.conversation.client.pass

-- this history has an entry of the conversation that it doesn't know
abbrev pub LacksOneOf : {N D : Type 0} → Log → Finished N D → Type 0
LacksOneOf log f = IsForeign f.conversation.client.pass log

-- The verifier decides which signatures are good.
module _ {N D : Type 0} (accepts : Accepts) (callers : ℕ) (input output : D → Option (List ℕ)) where
  -- how the conversation from this state ended, if the input of its device is known
  abbrev pub IsFinishedFrom : Conversation N → Option (List ℕ) → D → Finished N D → Type 0
  IsFinishedFrom c line device f =
      IfSome (input device) (λ bytes. Ended (IsTurn accepts callers) (IsBroken accepts callers) c
      (lines_with line bytes) (output device) (output f.device) f.ended f.conversation)

  abbrev pub IsFinished : Connected N D → Finished N D → Type 0
  IsFinished c f = IsFinishedFrom c.conversation (line_in c.line) c.device f

  -- the conversation of the client with this seat and device, from its first line on
  abbrev pub IsServed : Settings → Seat N → D → Finished N D → Type 0
  IsServed settings seat device f =
      (c : Conversation N) × IsWith seat.names settings seat (nothing_staged (salt_of settings)) 1 c × IsFinishedFrom c None device f

  -- those of the clients with these seats and devices, in order
  abbrev pub AreClientsServed : Settings → List (Seat N) → List D → List (Finished N D) → Type 0
  AreClientsServed settings (seat ∷ seats) (device ∷ devices) (f ∷ fs) =
      IsServed settings seat device f × AreClientsServed settings seats devices fs
  AreClientsServed settings (seat ∷ seats) (device ∷ devices) [] = ⊥
  AreClientsServed settings seats devices fs = fs ≡ []

  -- the operator's, from the line that opened the pool on, and then those of the clients
  abbrev pub AreServed : alone.Conversation → List ℕ → D → List (Seat N) → List D → List (Finished N D) → Type 0
  AreServed operator line device (seat ∷ seats) devices (f ∷ fs) =
      ((c : Conversation N) × IsWith operator.session.names operator.session.settings seat operator.staged operator.line c
      × IsFinishedFrom c (Some line) device f)
      × AreClientsServed operator.session.settings seats devices fs
  AreServed operator line device (seat ∷ seats) devices [] = ⊥
  AreServed operator line device [] devices fs = fs ≡ []
