-- Changes, and whether they are answered.
use Rattle.std.proofs.Common.{◌≡◌, ℕ, List, inl, inr, refl, sym, ap, ap₂, subst, ◌∙◌, append_assoc}
use Rattle.std.specs.Prelude.{◌++◌, Option, Some, None, Result, Ok, Err, IfOk, IfErr, OnOk, OnErr}
use Rattle.mp_tx.specs.Transaction.{Transaction}
use Rattle.mp_tx.specs.Ledger.{LedgerState}
use Rattle.mp_rules.specs.declared.invalid.Invalid.{Invalid}
use Rattle.mp_rules.specs.Verifier.{Accepts}
use Rattle.mp_seqpool.specs.declared.refusal.Refusal.{Refusal}
use Rattle.mp_seqpool.specs.declared.command.Reply.{Reply}
use Rattle.mp_seqpool.specs.Command.{Command}
use Rattle.mp_history.specs.Entry.{Entry}
use Rattle.mp_names.specs.Names.{Names}
use Rattle.mp_mempool.specs.Pass.{Pass}
use Rattle.mp_mempool.specs.Seen.{IsSeen, seen}
use Rattle.mp_serve.specs.declared.answer.Answer.{Answer}
use Rattle.mp_serve.specs.declared.used.Used.{Used}
use Rattle.mp_serve.specs.Staged.{Staged}
use Rattle.mp_serve.specs.Inside.Answer.{text_of}
use Rattle.mp_clients.specs.declared.conversation.Conversation.{Conversation}
use Rattle.mp_clients.specs.declared.stop.ClientStop.{ClientStop}
use Rattle.mp_clients.specs.declared.stop.ClientStop.TheVariants.{NoMemory, Untold, Foreign}
use Rattle.mp_clients.specs.Client.{Client}
use Rattle.mp_clients.specs.Answers.{IsAsked, HasLooked, IsAnsweredBy, IsSynced, IsExtended, IsReturned, IsUnchanged, counting, with_client}
use Rattle.mp_clients.specs.Inside.Asked.{IsUnanswered, IsBefore}
use Rattle.mp_clients.specs.Inside.Steps.{IsStopped}

module _ (accepts : Accepts) (callers : ℕ) where
  -- ---- what was seen

  seen_more : (p q r : Pass) → IsSeen accepts callers p q → IsSeen accepts callers q r → IsSeen accepts callers p r
  seen_more p q r one two = record {
    more = one.more ++ two.more;
    pass = two.pass ∙ ap (λ (x : Pass). seen x two.more) one.pass
        ∙ ap (λ (es : List Entry). record p { front = record p.front { entries = es } }) (append_assoc p.front.entries one.more two.more);
    legal = two.legal;
  }

  looked_more : (k m l : Client) → HasLooked accepts callers k m → HasLooked accepts callers m l → HasLooked accepts callers k l
  looked_more k m l one two = record {
    seen = seen_more k.pass m.pass l.pass one.seen two.seen;
    same = two.same ∙ ap (λ (x : Client). record x { pass = l.pass }) one.same;
  }

module _ {N : Type 0} (accepts : Accepts) (callers : ℕ) where
  -- the conversation has looked at the pool, and nothing else has changed
  pub looked_only : (c : Conversation N) (k : Client) (u : Conversation N) → HasLooked accepts callers c.client k → u ≡ with_client c k → IsUnchanged accepts callers c u
  looked_only c k u looked is = inr (
    subst (λ (v : Conversation N). HasLooked accepts callers c.client v.client) (sym is) looked,
    is ∙ ap (λ (v : Conversation N). with_client c v.client) (sym is),
  )

  pub unchanged_more : (c : Conversation N) (k : Client) (u : Conversation N) → HasLooked accepts callers c.client k → IsUnchanged accepts callers (with_client c k) u → IsUnchanged accepts callers c u
  unchanged_more c k u looked (inl same) = looked_only c k u looked same
  unchanged_more c k u looked (inr (more, is)) = inr (looked_more accepts callers c.client k u.client looked more, is)

  -- ---- changes

  module _ (c : Conversation N) (command : Command) (does : Result Reply Refusal → Pass → Client) (names : Result Reply Refusal → Names) (staged : Result Reply Refusal → Staged) (says : Result Reply Refusal → List ℕ) where
    -- a change that is answered
    pub answered : (a : Result Reply Refusal) (k : Client) (text : List ℕ) (u : Conversation N) → IsAsked accepts callers c.client command does a k
        → text ≡ says a → u ≡ record c { names = names a; client = counting a k; staged = staged a } → IsAnsweredBy accepts callers c command does names staged says text u
    answered a k text u asked said is = record {
      answer = a;
      pass = k.pass;
      asked = subst (IsAsked accepts callers c.client command does a) asked.after_is asked;
      text_is = said;
      after = is ∙ ap (λ (x : Client). record c { names = names a; client = counting a x; staged = staged a }) asked.after_is;
    }

    -- a change whose answer is lost
    untold : (r : Reply) (k : Client) (u : Conversation N) → IsAsked accepts callers c.client command does (Ok r) k → u ≡ record c { client = k; staged = staged (Ok r) }
        → IsStopped accepts callers (IsAnsweredBy accepts callers c command does names staged says) c u Untold
    untold r k u asked is = (
      says (Ok r),
      record c { names = names (Ok r); client = counting (Ok r) k; staged = staged (Ok r) },
      answered (Ok r) k _ _ asked refl refl,
      is,
    )

    -- a refusal without a line
    unmoved : (f : Refusal) (k : Client) (u : Conversation N) → IsAsked accepts callers c.client command does (Err f) k → u ≡ with_client c k
        → ((p : Pass) → does (Err f) p ≡ record c.client { pass = p }) → IsUnchanged accepts callers c u
    unmoved f k u asked is moves = inr (
      subst (λ (v : Conversation N). HasLooked accepts callers c.client v.client) (sym is) (record {
        seen = record { more = asked.answer.others; pass = asked.answer.pass; legal = asked.answer.legal };
        same = asked.after_is ∙ moves k.pass;
      }),
      is ∙ ap (λ (v : Conversation N). with_client c v.client) (sym is),
    )

    -- there is no line of the answer
    pub stopped : (a : Result Reply Refusal) (k : Client) (u : Conversation N) (stop : ClientStop) → IsAsked accepts callers c.client command does a k → u ≡ record c { client = k; staged = staged a }
        → ((f : Refusal) (p : Pass) → does (Err f) p ≡ record c.client { pass = p }) → ((f : Refusal) → staged (Err f) ≡ c.staged) → IsUnanswered a stop
        → IsStopped accepts callers (IsAnsweredBy accepts callers c command does names staged says) c u stop
    stopped (Ok r) k u stop asked is moves stays why = subst (IsStopped accepts callers (IsAnsweredBy accepts callers c command does names staged says) c u) (sym why) (untold r k u asked is)
    stopped (Err f) k u stop asked is moves stays why =
        subst (IsStopped accepts callers (IsAnsweredBy accepts callers c command does names staged says) c u) (sym why)
        (unmoved f k u asked (is ∙ ap (λ (s : Staged). record c { client = k; staged = s }) (stays f)) (moves f))

    -- the answer to a change, whether there is a line or not
    pub finished : (a : Result Reply Refusal) (k l : Client) (n : Names) (s : Staged) (r : Result Answer ClientStop) → IsAsked accepts callers c.client command does a k
        → ((f : Refusal) (p : Pass) → does (Err f) p ≡ record c.client { pass = p }) → ((f : Refusal) → staged (Err f) ≡ c.staged) → s ≡ staged a
        → IfOk r (λ t. text_of t ≡ says a) → OnOk r (l ≡ counting a k) → OnOk r (n ≡ names a)
        → IfErr r (IsUnanswered a) → OnErr r (l ≡ k) → OnErr r (n ≡ c.names)
        → IfOk r (λ t. IsAnsweredBy accepts callers c command does names staged says (text_of t) (record c { names = n; client = l; staged = s }))
        × IfErr r (IsStopped accepts callers (IsAnsweredBy accepts callers c command does names staged says) c (record c { names = n; client = l; staged = s }))
    finished a k l n s (Ok t) asked moves stays left said count named why same kept = (
      answered a k (text_of t) _ asked said
          (ap₂ (λ m x. record c { names = m; client = x; staged = s }) named count ∙ ap (λ (y : Staged). record c { names = names a; client = counting a k; staged = y }) left),
      tt,
    )
    finished a k l n s (Err stop) asked moves stays left said count named why same kept = (
      tt,
      stopped a k _ stop asked (ap₂ (λ m x. record c { names = m; client = x; staged = s }) kept same ∙ ap (λ (y : Staged). record c { client = k; staged = y }) left) moves stays why,
    )

  -- the ledger state after a block is adopted
  pub extended : (c : Conversation N) (used : Used) (txs : List Transaction) (wanted : Result LedgerState (ℕ × Invalid)) (l : LedgerState) (r : Result Answer ClientStop) (u : Conversation N) → wanted ≡ Ok l
      → IfOk r (λ t. IsSynced accepts callers c l used (text_of t) u)
      → IfErr r (IsStopped accepts callers (IsSynced accepts callers c l used) c u)
      → IfOk r (λ t. IsExtended accepts callers c used txs wanted (text_of t) u) × IfErr r (IsStopped accepts callers (IsExtended accepts callers c used txs wanted) c u)
  extended c used txs wanted l r u e ok err =
      subst (λ (w : Result LedgerState (ℕ × Invalid)). IfOk r (λ t. IsExtended accepts callers c used txs w (text_of t) u) × IfErr r (IsStopped accepts callers (IsExtended accepts callers c used txs w) c u)) (sym e) (ok, err)

  -- a former ledger state is adopted
  pub returned : (c : Conversation N) (count : ℕ) (wanted : Option LedgerState) (l : LedgerState) (r : Result Answer ClientStop) (u : Conversation N) → wanted ≡ Some l
      → IfOk r (λ t. IsReturned accepts callers c count (Some l) (text_of t) u)
      → IfErr r (IsStopped accepts callers (IsReturned accepts callers c count (Some l)) c u)
      → IfOk r (λ t. IsReturned accepts callers c count wanted (text_of t) u) × IfErr r (IsStopped accepts callers (IsReturned accepts callers c count wanted) c u)
  returned c count wanted l r u e ok err =
      subst (λ (w : Option LedgerState). IfOk r (λ t. IsReturned accepts callers c count w (text_of t) u) × IfErr r (IsStopped accepts callers (IsReturned accepts callers c count w) c u)) (sym e) (ok, err)

  -- no ledger state is that far back
  pub none_back : (c : Conversation N) (count : ℕ) (wanted : Option LedgerState) (r : Result Answer ClientStop) (u : Conversation N) → wanted ≡ None
      → IfOk r (λ t. (n : ℕ) → IsReturned accepts callers c n None (text_of t) u) → IfOk r (λ t. IsReturned accepts callers c count wanted (text_of t) u)
  none_back c count wanted (Ok t) u e is = subst (λ (w : Option LedgerState). IsReturned accepts callers c count w (text_of t) u) (sym e) (is count)
  none_back c count wanted (Err stop) u e is = tt

  -- before a change was made
  pub stopped_before : (Does : List ℕ → Conversation N → Type 0) (c u : Conversation N) (stop : ClientStop) → IsBefore stop → u ≡ c → IsStopped accepts callers Does c u stop
  stopped_before Does c u NoMemory before same = inl same
  stopped_before Does c u Untold before same = absurd before
  stopped_before Does c u Foreign before same = inl same
