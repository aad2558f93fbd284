-- The answer to what is asked, with the pool that the conversation has then seen.
use Rattle.std.proofs.Common.{◌≡◌, ◌⊎◌, ℕ, true, List, inl, inr, refl, sym, ap, subst, ◌∙◌}
use Rattle.std.specs.Prelude.{Some, Result, Ok, Err, IfOk, IfErr}
use Rattle.mp_rules.specs.Verifier.{Accepts}
use Rattle.mp_mempool.specs.Pass.{Pass}
use Rattle.mp_mempool.specs.Seen.{IsSeen}
use Rattle.mp_names.specs.declared.fault.LineFault.{LineFault}
use Rattle.mp_names.specs.declared.fault.LineFault.TheVariants.{Bad}
use Rattle.mp_names.specs.declared.reason.Reason.{Reason}
use Rattle.mp_names.specs.Fault.{IsBad}
use Rattle.mp_lines.specs.Lines as lines
use Rattle.mp_serve.specs.declared.answer.Answer.{Answer}
use Rattle.mp_serve.specs.Inside.Answer.{text_of}
use Rattle.mp_serve.specs.declared.conversation.Conversation as alone
use Rattle.mp_serve.specs.Ask as asks
use Rattle.mp_serve.specs.Ask.{Ask, NewBlock, Does}
use Rattle.mp_serve.specs.Request.{ResolvedBlock}
use Rattle.mp_serve.specs.Served.{IsBadLine}
use Rattle.mp_serve.specs.Talk.{take}
use Rattle.mp_serve.specs.declared.used.Used.{Used}
use Rattle.mp_serve.specs.Texts.{no_memory_text}
use Rattle.mp_clients.specs.declared.conversation.Conversation.{Conversation}
use Rattle.mp_clients.specs.declared.stop.ClientStop.{ClientStop}
use Rattle.mp_clients.specs.declared.stop.ClientStop.TheVariants.{NoMemory, Untold, Foreign}
use Rattle.mp_clients.specs.Client.{Client}
use Rattle.mp_clients.specs.Alone.{alone_at}
use Rattle.mp_clients.specs.Answers.{HasLooked, IsAnsweredAlone, IsExtendedBy, IsTaken, IsMeaningless, IsHeard, used_by, with_client}
use Rattle.mp_clients.specs.Inside.Notes.{is_note, is_alone}
use Rattle.mp_clients.specs.Inside.Steps.{IsToldAlone, IsBadAlone, IsMeantBlock, IsStopped}
use Rattle.mp_clients.proofs.Steps.{looked_only, unchanged_more}

module _ {N : Type 0} (accepts : Accepts) (callers : ℕ) (c : Conversation N) where
  pub taken_note : (line : lines.Line) (text : List ℕ) (u : Conversation N) → is_note line ≡ true → IsAnsweredAlone accepts callers c (Does line) text u → IsTaken accepts callers c (Does line) text u
  taken_note lines.Blank text u e is = is
  taken_note (lines.Sets s) text u e is = Prim.cc
  taken_note (lines.Script s) text u e is = is
  taken_note (lines.Data s) text u e is = is
  taken_note (lines.Out n p) text u e is = Prim.cc
  taken_note (lines.Tx n t) text u e is = is
  taken_note (lines.Submit t) text u e is = Prim.cc
  taken_note (lines.Remove ids) text u e is = Prim.cc
  taken_note (lines.Sync l) text u e is = Prim.cc
  taken_note (lines.For l) text u e is = is
  taken_note (lines.Asks q) text u e is = is

  pub taken_alone : (ask : Ask) (text : List ℕ) (u : Conversation N) → is_alone ask ≡ true → IsAnsweredAlone accepts callers c ask text u → IsTaken accepts callers c ask text u
  taken_alone (asks.Does line) text u e is = Prim.cc
  taken_alone (asks.Reads n b) text u e is = is
  taken_alone (asks.Submits n t) text u e is = Prim.cc
  taken_alone (asks.SubmitsBytes b) text u e is = Prim.cc
  taken_alone (asks.Shows w) text u e is = is
  taken_alone (asks.Checks w) text u e is = is
  taken_alone asks.Counts text u e is = is
  taken_alone (asks.Holds r o) text u e is = Prim.cc
  taken_alone (asks.Extends b) text u e is = Prim.cc
  taken_alone (asks.Stages b) text u e is = is
  taken_alone (asks.StagesHeld ws) text u e is = is
  taken_alone (asks.StagesOutput r o) text u e is = is
  taken_alone asks.Unstages text u e is = is
  taken_alone (asks.Syncs n b) text u e is = Prim.cc
  taken_alone (asks.Returns n) text u e is = Prim.cc
  taken_alone (asks.Forgets ns) text u e is = is
  taken_alone (asks.ReportsById b) text u e is = is
  taken_alone asks.Resets text u e is = is

  module _ (k : Client) (looked : HasLooked accepts callers c.client k) where
    -- the client differs only by what it has seen
    same_alone : alone_at accepts (with_client c k) k.pass.front ≡ alone_at accepts c k.pass.front
    same_alone = ap (λ (x : Client). alone_at accepts (with_client c x) k.pass.front) looked.same

    pub answered_alone : (ask : Ask) (text : List ℕ) (u : Conversation N) → IsToldAlone accepts (with_client c k) (λ x. take x ask) text u → IsAnsweredAlone accepts callers c ask text u
    answered_alone ask text u told = record {
      seen = subst (IsSeen accepts callers c.client.pass) (sym told.pass) looked.seen;
      step = subst (λ (p : Pass). take (alone_at accepts c p.front) ask ≡ Some (alone_at accepts u p.front, text)) (sym told.pass)
          (subst (λ (x : alone.Conversation). take x ask ≡ Some (alone_at accepts u k.pass.front, text)) same_alone told.said);
      ledger = told.ledger ∙ ap (λ (x : Client). x.ledger) looked.same;
    }

    bad_there : (ask : Ask) (text : List ℕ) (u : Conversation N) → IsBadAlone accepts (with_client c k) (λ x. take x ask) → u ≡ with_client c k → IsBadLine c.line text → IsMeaningless accepts callers c ask text u
    bad_there ask text u bad is said =
        subst (IsMeaningless accepts callers c ask text) (sym is)
        (record { looked = looked; after = refl; step = ap (λ (x : alone.Conversation). take x ask) (sym same_alone) ∙ bad; text_is = said })

    -- the line means nothing to the pool
    pub heard_bad : (ask : Ask) (text : List ℕ) (u : Conversation N) → IsBadAlone accepts (with_client c k) (λ x. take x ask) → u ≡ with_client c k
        → IsBadLine c.line text ⊎ (text ≡ no_memory_text) → IsHeard accepts callers c (Some ask) text u
    heard_bad ask text u bad is (inl said) = inr (inl (bad_there ask text u bad is said))
    heard_bad ask text u bad is (inr none) = inr (inr (none, looked_only accepts callers c k u looked is))

    -- the same of the line's number in the state afterwards
    pub heard_bad_at : (ask : Ask) (text : List ℕ) (u : Conversation N) → IsBadAlone accepts (with_client c k) (λ x. take x ask) → u ≡ with_client c k
        → IsBadLine u.line text ⊎ (text ≡ no_memory_text) → IsHeard accepts callers c (Some ask) text u
    heard_bad_at ask text u bad is said = heard_bad ask text u bad is (subst (λ (x : Conversation N). IsBadLine x.line text ⊎ (text ≡ no_memory_text)) is said)

    pub heard_alone : (ask : Ask) (text : List ℕ) (u : Conversation N) → is_alone ask ≡ true → IsToldAlone accepts (with_client c k) (λ x. take x ask) text u → IsHeard accepts callers c (Some ask) text u
    heard_alone ask text u e told = inl (taken_alone ask text u e (answered_alone ask text u told))

    pub noted : (line : lines.Line) (text : List ℕ) (u : Conversation N) → is_note line ≡ true → IsToldAlone accepts (with_client c k) (λ x. take x (Does line)) text u → IsTaken accepts callers c (Does line) text u
    noted line text u e told = taken_note line text u e (answered_alone (Does line) text u told)

    extended_as : (used uses : Used) (block b : ResolvedBlock) (text : List ℕ) (u : Conversation N) → used ≡ uses → block ≡ b
        → IsExtendedBy accepts callers (with_client c k) used block text u → IsExtendedBy accepts callers (with_client c k) uses b text u
    extended_as used uses block b text u same is e =
        subst (λ (x : Used). IsExtendedBy accepts callers (with_client c k) x b text u) same
        (subst (λ (x : ResolvedBlock). IsExtendedBy accepts callers (with_client c k) used x text u) is e)

    -- the words of a block mean transactions
    pub extended_there : (b : NewBlock) (block : ResolvedBlock) (used : Used) (r : Result Answer ClientStop) (u : Conversation N) → used ≡ used_by b.txs → IsMeantBlock accepts (with_client c k) b block
        → IfOk r (λ a. IsExtendedBy accepts callers (with_client c k) used block (text_of a) u)
        → IfErr r (IsStopped accepts callers (IsExtendedBy accepts callers (with_client c k) used block) (with_client c k) u)
        → IfOk r (λ a. IsHeard accepts callers c (Some (asks.Extends b)) (text_of a) u) × IfErr r (IsStopped accepts callers (IsTaken accepts callers c (asks.Extends b)) c u)
    extended_there b block used (Ok a) u uses (txs, meant, is) ok err = (
      inl (record { client = k; txs = txs; looked = looked; meant = meant; extended = extended_as used (used_by b.txs) block _ (text_of a) u uses is ok }),
      tt,
    )
    extended_there b block used (Err NoMemory) u uses meant ok err = (tt, unchanged_more accepts callers c k u looked err)
    extended_there b block used (Err Foreign) u uses meant ok err = (tt, unchanged_more accepts callers c k u looked err)
    extended_there b block used (Err Untold) u uses (txs, meant, is) ok (text, v, does, same) = (
      tt,
      (text, v, record { client = k; txs = txs; looked = looked; meant = meant; extended = extended_as used (used_by b.txs) block _ text v uses is does }, same),
    )

-- the line is bad
pub is_bad : (X : Type 0) (f : LineFault) (reason : Reason) → f ≡ Bad reason → IsBad {X = X} (Err f)
is_bad X f reason e = subst (λ (x : LineFault). IsBad {X = X} (Err x)) (sym e) tt
