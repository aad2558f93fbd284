-- Conversations and their devices before they go on.
use Rattle.std.specs.Prelude.{◌≡◌, ℕ, List, [], ◌∷◌, None, Some}
use Rattle.mp_names.specs.Names.{Names}
use Rattle.mp_session.specs.declared.settings.Settings.{Settings}
use Rattle.mp_session.specs.Settings.{salt_of}
use Rattle.mp_serve.specs.declared.device.Turn.{Turn}
use Rattle.mp_serve.specs.Staged.{Staged, nothing_staged}
use Rattle.mp_serve.specs.declared.conversation.Conversation as alone
use Rattle.mp_clients.specs.declared.connected.Connected.{Connected}
use Rattle.mp_clients.specs.declared.opening.Seat.{Seat}
use Rattle.mp_clients.specs.Service.{IsWith}
use Rattle.mp_clients.specs.Waiting.{line_in, turn_with}

module _ {N D : Type 0} where
  -- the device owes the answer to the line that was read already, or listens
  abbrev pub IsReady : (D → Turn) → Connected N D → Type 0
  IsReady turn k = turn k.device ≡ turn_with (line_in k.line)

  -- the operator's conversation, with the line that opened the pool
  pub record IsOperator (names : Names) (settings : Settings) (seat : Seat N) (staged : Staged) (number : ℕ) (line : List ℕ) (device : D)
      (k : Connected N D) : Type 0 where
    pub state : IsWith names settings seat staged number k.conversation
    pub device_is : k.device ≡ device
    pub line_is : line_in k.line ≡ Some line

  -- a client's, before its first line
  pub record IsClientOf (settings : Settings) (seat : Seat N) (device : D) (k : Connected N D) : Type 0 where
    pub state : IsWith seat.names settings seat (nothing_staged (salt_of settings)) 1 k.conversation
    pub device_is : k.device ≡ device
    pub line_is : line_in k.line ≡ None

  -- those of the clients with these seats and devices, in order
  abbrev pub AreClientsOf : Settings → List (Seat N) → List D → List (Connected N D) → Type 0
  AreClientsOf settings (seat ∷ seats) (device ∷ devices) (k ∷ ks) =
      IsClientOf settings seat device k × AreClientsOf settings seats devices ks
  AreClientsOf settings (seat ∷ seats) (device ∷ devices) [] = ⊥
  AreClientsOf settings seats devices ks = ks ≡ []

  -- the operator's and those of the clients
  abbrev pub AreConnected : alone.Conversation → List ℕ → D → List (Seat N) → List D → List (Connected N D) → Type 0
  AreConnected operator line device (seat ∷ seats) devices (k ∷ ks) =
      IsOperator operator.session.names operator.session.settings seat operator.staged operator.line line device k
      × AreClientsOf operator.session.settings seats devices ks
  AreConnected operator line device (seat ∷ seats) devices [] = ⊥
  AreConnected operator line device [] devices ks = ks ≡ []
