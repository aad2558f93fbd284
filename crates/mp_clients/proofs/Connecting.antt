-- Conversations that go on, one for each seat and device.
use Rattle.std.proofs.Common.{◌≡◌, ℕ, suc, ◌+◌, ◌<◌, List, [], ◌∷◌, ◌++◌, length, slice_index_or, refl, sym, ap, subst, ◌∙◌, arith, append_assoc}
use Rattle.std.specs.Prelude.{Option, None, Some, All, Result, Ok, Err, IfOk}
use Rattle.std.proofs.lemmas.List.Elements.{All-nil, All-cons, All-head, All-tail}
use Rattle.mp_rules.specs.Verifier.{Accepts}
use Rattle.mp_session.specs.declared.settings.Settings.{Settings}
use Rattle.mp_serve.specs.declared.device.Turn.{Turn}
use Rattle.mp_serve.specs.declared.device.Turn.TheVariants.{Listens, Owes}
use Rattle.mp_serve.specs.declared.conversation.Conversation as alone
use Rattle.mp_clients.specs.declared.connected.Connected.{Connected}
use Rattle.mp_clients.specs.declared.conversation.Conversation.{Conversation}
use Rattle.mp_clients.specs.declared.opening.Seat.{Seat}
use Rattle.mp_clients.specs.declared.service.Finished.{Finished}
use Rattle.mp_clients.specs.declared.service.Service.{Service}
use Rattle.mp_clients.specs.Waiting.{line_in, turn_with}
use Rattle.mp_clients.specs.Service.{IsFinishedFrom, IsFinished, AreClientsServed, AreServed}
use Rattle.mp_clients.specs.Inside.Connecting.{IsReady, IsOperator, IsClientOf, AreClientsOf, AreConnected}

-- without devices
no_devices : (N D : Type 0) (g : Settings) (seats : List (Seat N)) → AreClientsOf {N = N} {D = D} g seats [] []
no_devices N D g [] = refl
no_devices N D g (s ∷ ss) = refl

module _ {N D : Type 0} where
  -- The clients so far have these seats and devices, and the others those that are left.
  pub record Connects (g : Settings) (old : List (Connected N D)) (seats : List (Seat N)) (devices : List D) (now : List (Connected N D)) (seats_left : List (Seat N)) (devices_left : List D) : Type 0 where
    pub done : List (Connected N D)
    pub is : now ≡ old ++ done
    pub rest : (more : List (Connected N D)) → AreClientsOf g seats_left devices_left more → AreClientsOf g seats devices (done ++ more)

  pub connects-first : (g : Settings) (old : List (Connected N D)) (seats : List (Seat N)) (devices : List D) → old ≡ old ++ [] → Connects g old seats devices old seats devices
  connects-first g old seats devices e = record { done = []; is = e; rest = λ more are. are }

  pub connects-start : (g : Settings) (old : List (Connected N D)) (seats sl : List (Seat N)) (devices dl : List D) → old ≡ old ++ [] → sl ≡ seats → dl ≡ devices → Connects g old seats devices old sl dl
  connects-start g old seats sl devices dl e same other =
      subst (λ (l : List (Seat N)). Connects g old seats devices old l dl) (sym same)
      (subst (λ (l : List D). Connects g old seats devices old seats l) (sym other) (connects-first g old seats devices e))

  module _ (g : Settings) (old : List (Connected N D)) (seats : List (Seat N)) (devices : List D) (now : List (Connected N D)) where
    pub connects-more : (s : Seat N) (ss : List (Seat N)) (d : D) (ds : List D) (k : Connected N D) (new : List (Connected N D)) → Connects g old seats devices now (s ∷ ss) (d ∷ ds) → IsClientOf g s d k
        → new ≡ now ++ k ∷ [] → Connects g old seats devices new ss ds
    connects-more s ss d ds k new c is e = record {
      done = c.done ++ k ∷ [];
      is = e ∙ ap (λ l. l ++ k ∷ []) c.is ∙ append_assoc old c.done (k ∷ []);
      rest = λ more are. subst (AreClientsOf g seats devices) (sym (append_assoc c.done (k ∷ []) more)) (c.rest (k ∷ more) (is, are));
    }

    -- one more device and one more seat
    pub connects-next : (sl : List (Seat N)) (dl : List D) (s : Seat N) (ss : List (Seat N)) (d : D) (ds : List D) (k : Connected N D) (new : List (Connected N D)) → Connects g old seats devices now sl dl → sl ≡ s ∷ ss → dl ≡ d ∷ ds
        → IsClientOf g s d k → new ≡ now ++ k ∷ [] → Connects g old seats devices new ss ds
    connects-next sl dl s ss d ds k new c first next is e =
        connects-more s ss d ds k new (subst (λ (l : List (Seat N)). Connects g old seats devices now l (d ∷ ds)) first (subst (λ (l : List D). Connects g old seats devices now sl l) next c)) is e

    ended_at : (seats_left : List (Seat N)) (devices_left : List D) → Connects g old seats devices now seats_left devices_left → AreClientsOf {N = N} {D = D} g seats_left devices_left []
        → (more : List (Connected N D)) × (now ≡ old ++ more) × AreClientsOf g seats devices more
    ended_at sl dl c none = (c.done ++ [], c.is ∙ ap (λ l. old ++ l) (sym (nil_behind c.done)), c.rest [] none)
      where
        nil_behind : (l : List (Connected N D)) → l ++ [] ≡ l
        nil_behind [] = refl
        nil_behind (x ∷ xs) = ap (λ l. x ∷ l) (nil_behind xs)

    -- no device is left
    pub connects-all : (seats_left : List (Seat N)) (devices_left : List D) → devices_left ≡ [] → Connects g old seats devices now seats_left devices_left → (more : List (Connected N D)) × (now ≡ old ++ more) × AreClientsOf g seats devices more
    connects-all sl dl e c = ended_at sl dl c (subst (λ (l : List D). AreClientsOf {N = N} {D = D} g sl l []) (sym e) (no_devices N D g sl))

    -- no seat is left
    pub connects-most : (seats_left : List (Seat N)) (devices_left : List D) → seats_left ≡ [] → Connects g old seats devices now seats_left devices_left → (more : List (Connected N D)) × (now ≡ old ++ more) × AreClientsOf g seats devices more
    connects-most sl dl e c = ended_at sl dl c (subst (λ (l : List (Seat N)). AreClientsOf {N = N} {D = D} g l dl []) (sym e) refl)

  -- the operator's conversation and those of the clients
  pub connected : (operator : alone.Conversation) (line : List ℕ) (d : D) (seats : List (Seat N)) (s : Seat N) (ss : List (Seat N)) (devices : List D) (k : Connected N D) (all : List (Connected N D)) → seats ≡ s ∷ ss
      → IsOperator operator.session.names operator.session.settings s operator.staged operator.line line d k → (more : List (Connected N D)) × (all ≡ k ∷ more) × AreClientsOf operator.session.settings ss devices more
      → AreConnected operator line d seats devices all
  connected operator line d seats s ss devices k all e is (more, at, are) =
      subst (λ (l : List (Seat N)). AreConnected operator line d l devices all) (sym e) (subst (λ (l : List (Connected N D)). AreConnected operator line d (s ∷ ss) devices l) (sym at) (is, are))

  -- by the settings that they share
  pub connected_all : (operator : alone.Conversation) (line : List ℕ) (d : D) (seats ss : List (Seat N)) (s : Seat N) (devices : List D) (k : Connected N D) (pushed all : List (Connected N D)) (own shared : Settings) → seats ≡ s ∷ ss
      → shared ≡ operator.session.settings → own ≡ operator.session.settings → IsOperator operator.session.names own s operator.staged operator.line line d k → pushed ≡ k ∷ []
      → (more : List (Connected N D)) × (all ≡ pushed ++ more) × AreClientsOf shared ss devices more → AreConnected operator line d seats devices all
  connected_all operator line d seats ss s devices k pushed all own shared e same mine is p (more, at, are) =
      connected operator line d seats s ss devices k all e (subst (λ (g : Settings). IsOperator operator.session.names g s operator.staged operator.line line d k) mine is)
      (more, at ∙ ap (λ l. l ++ more) p, subst (λ (g : Settings). AreClientsOf g ss devices more) same are)

  -- without a seat
  pub no_seats : (operator : alone.Conversation) (line : List ℕ) (d : D) (seats : List (Seat N)) (devices : List D) (all : List (Connected N D)) → seats ≡ [] → all ≡ [] → AreConnected operator line d seats devices all
  no_seats operator line d seats devices all e none = subst (λ (l : List (Seat N)). AreConnected operator line d l devices all) (sym e) none

  -- ---- their devices

  ready_clients : (turn : D → Turn) (g : Settings) (seats : List (Seat N)) (devices : List D) (ks : List (Connected N D)) → AreClientsOf g seats devices ks → All (λ d. turn d ≡ Listens) devices → All (IsReady turn) ks
  ready_clients turn g (s ∷ ss) (d ∷ ds) (k ∷ ks) are listen =
      All-cons (IsReady turn) k ks (ap turn are.0.device_is ∙ All-head (λ (x : D). turn x ≡ Listens) d ds listen ∙ sym (ap turn_with are.0.line_is))
      (ready_clients turn g ss ds ks are.1 (All-tail (λ (x : D). turn x ≡ Listens) d ds listen))
  ready_clients turn g (s ∷ ss) (d ∷ ds) [] are listen = absurd are
  ready_clients turn g (s ∷ ss) [] ks are listen = subst (All (IsReady turn)) (sym are) (All-nil (IsReady {N = N} {D = D} turn))
  ready_clients turn g [] devices ks are listen = subst (All (IsReady turn)) (sym are) (All-nil (IsReady {N = N} {D = D} turn))

  -- each is ready
  pub all_ready : (turn : D → Turn) (operator : alone.Conversation) (line : List ℕ) (d : D) (seats : List (Seat N)) (devices : List D) (ks : List (Connected N D)) → AreConnected operator line d seats devices ks → turn d ≡ Owes
      → All (λ d. turn d ≡ Listens) devices → All (IsReady turn) ks
  all_ready turn operator line d (s ∷ ss) devices (k ∷ ks) are owes listen =
      All-cons (IsReady turn) k ks (ap turn are.0.device_is ∙ owes ∙ sym (ap turn_with are.0.line_is)) (ready_clients turn operator.session.settings ss devices ks are.1 listen)
  all_ready turn operator line d (s ∷ ss) devices [] are owes listen = absurd are
  all_ready turn operator line d [] devices ks are owes listen = subst (All (IsReady turn)) (sym are) (All-nil (IsReady {N = N} {D = D} turn))

  -- ---- all of them are served

  module _ (accepts : Accepts) (callers : ℕ) (input output : D → Option (List ℕ)) where
    abbrev Each : List (Connected N D) → List (Finished N D) → Type 0
    Each ks fs = (i : ℕ) (c : Connected N D) (f : Finished N D) → i < length ks → IsFinished accepts callers input output (slice_index_or ks i c) (slice_index_or fs i f)

    finished_from : (k : Connected N D) (line : Option (List ℕ)) (d : D) (f : Finished N D) → line_in k.line ≡ line → k.device ≡ d → IsFinished accepts callers input output k f
        → IsFinishedFrom accepts callers input output k.conversation line d f
    finished_from k line d f l e is =
        subst (λ (x : D). IsFinishedFrom accepts callers input output k.conversation line x f) e
        (subst (λ (o : Option (List ℕ)). IsFinishedFrom accepts callers input output k.conversation o k.device f) l is)

    later : (k : Connected N D) (ks : List (Connected N D)) (f : Finished N D) (fs : List (Finished N D)) → Each (k ∷ ks) (f ∷ fs) → Each ks fs
    later k ks f fs each i c x lt = each (suc i) c x (omega (arith, lt))

    clients_served : (g : Settings) (seats : List (Seat N)) (devices : List D) (ks : List (Connected N D)) (fs : List (Finished N D)) → AreClientsOf g seats devices ks → length fs ≡ length ks → Each ks fs
        → AreClientsServed accepts callers input output g seats devices fs
    clients_served g (s ∷ ss) (d ∷ ds) (k ∷ ks) (f ∷ fs) are len each = (
      (k.conversation, are.0.state, finished_from k None d f are.0.line_is are.0.device_is (each 0 k f (omega arith))),
      clients_served g ss ds ks fs are.1 (omega (arith, len)) (later k ks f fs each),
    )
    clients_served g (s ∷ ss) (d ∷ ds) (k ∷ ks) [] are len each = absurd (omega (arith, len))
    clients_served g (s ∷ ss) (d ∷ ds) [] fs are len each = absurd are
    clients_served g (s ∷ ss) [] ks [] are len each = refl
    clients_served g (s ∷ ss) [] ks (f ∷ fs) are len each = absurd (let n = ap length are in omega (arith, len, n))
    clients_served g [] devices ks [] are len each = refl
    clients_served g [] devices ks (f ∷ fs) are len each = absurd (let n = ap length are in omega (arith, len, n))

    pub served : (operator : alone.Conversation) (line : List ℕ) (d : D) (seats : List (Seat N)) (devices : List D) (ks : List (Connected N D)) (fs : List (Finished N D)) → AreConnected operator line d seats devices ks → length fs ≡ length ks → Each ks fs
        → AreServed accepts callers input output operator line d seats devices fs
    served operator line d (s ∷ ss) devices (k ∷ ks) (f ∷ fs) are len each = (
      (k.conversation, are.0.state, finished_from k (Some line) d f are.0.line_is are.0.device_is (each 0 k f (omega arith))),
      clients_served operator.session.settings ss devices ks fs are.1 (omega (arith, len)) (later k ks f fs each),
    )
    served operator line d (s ∷ ss) devices (k ∷ ks) [] are len each = absurd (omega (arith, len))
    served operator line d (s ∷ ss) devices [] fs are len each = absurd are
    served operator line d [] devices ks [] are len each = refl
    served operator line d [] devices ks (f ∷ fs) are len each = absurd (let n = ap length are in omega (arith, len, n))

    pub served_ok : {E : Type 0} (r : Result (Service N D) E) (operator : alone.Conversation) (line : List ℕ) (d : D) (seats : List (Seat N)) (devices : List D) (ks : List (Connected N D)) → AreConnected operator line d seats devices ks
        → IfOk r (λ s. length s.finished.items ≡ length ks) → IfOk r (λ s. Each ks s.finished.items) → IfOk r (λ s. AreServed accepts callers input output operator line d seats devices s.finished.items)
    served_ok (Ok s) operator line d seats devices ks are len each = served operator line d seats devices ks s.finished.items are len each
    served_ok (Err e) operator line d seats devices ks are len each = tt
