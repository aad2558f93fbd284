-- A conversation answers the lines of a scenario as a run does.
use Rattle.std.proofs.Common.{◌≡◌, ℕ, Bool, true, false, cond, List, [], ◌∷◌, ◌++◌, refl, sym, ap, subst, ◌∙◌}
use Rattle.std.specs.Prelude.{nat_eq, codes, Option, None, Some, option_map, option_and_then, Result, Ok, Err, map}
use Rattle.std.specs.Result.{result_err}
use Rattle.std.specs.Cmp.Lexicographic.{pointwise, bytes_decides}
use Rattle.mp_text.specs.Words.{words_of}
use Rattle.mp_tx.specs.Transaction.{Transaction}
use Rattle.mp_tx.specs.Spelling.{id_of}
use Rattle.mp_tx.specs.Ledger.{LedgerState}
use Rattle.mp_seqpool.specs.Keep.{keep}
use Rattle.mp_seqpool.specs.declared.refusal.Refusal.{Refusal}
use Rattle.mp_seqpool.specs.declared.command.Reply.{Reply}
use Rattle.mp_seqpool.specs.Command as commands
use Rattle.mp_seqpool.specs.Pool.{Pool}
use Rattle.mp_seqpool.specs.SlowPool.{answer, next}
use Rattle.mp_names.specs.declared.payment.Payment.{Payment}
use Rattle.mp_names.specs.declared.settings.Setting.{Setting}
use Rattle.mp_names.specs.Names.{Names, name_of, with_reported}
use Rattle.mp_lines.specs.Lines.{Line, Blank, Sets, Script, Data, Out, Tx, Submit, Remove, Sync, For, Asks, line_of}
use Rattle.mp_answers.specs.AnswerText.{told_text, items_text, answer_text}
use Rattle.mp_answers.specs.QueryText.{words_text, query_text, for_text}
use Rattle.mp_signatures.specs.declared.scheme.Scheme.{Scheme}
use Rattle.mp_signatures.specs.Scheme.{accepted_by}
use Rattle.mp_session.specs.declared.settings.Settings.{Settings}
use Rattle.mp_session.specs.Beginning.{Beginning, with_out}
use Rattle.mp_session.specs.declared.session.Session.{Session}
use Rattle.mp_session.specs.declared.session.Stage.{Stage}
use Rattle.mp_session.specs.declared.session.Stage.TheVariants.{Before, Open}
use Rattle.mp_session.specs.Settings.{with_setting}
use Rattle.mp_session.specs.Request.{Request, Change, Try, Read}
use Rattle.mp_session.specs.Session as sessions
use Rattle.mp_session.specs.Pool.{ScenarioPool}
use Rattle.mp_session.specs.declared.scene.Scene.{Scene}
use Rattle.mp_session.specs.Scene as runs
use Rattle.mp_serve.specs.declared.conversation.Conversation.{Conversation}
use Rattle.mp_serve.specs.declared.refused.Counts.{Counts}
use Rattle.mp_serve.specs.Refused.{none_counted, counted_if}
use Rattle.mp_serve.specs.ServedPool.{ServedPool, latest}
use Rattle.mp_serve.specs.Staged.{nothing_staged}
use Rattle.mp_serve.specs.Request.{Plain, answer_to, reported_if, respond_plainly, respond}
use Rattle.mp_serve.specs.Ask.{Does, ask_of}
use Rattle.mp_serve.specs.Talk as talk
use Rattle.mp_serve.specs.PlainRun.{or_ok, HasRoom, UsesReportedName, IsPlainLine, IsPlainRun, Answers}
use Rattle.mp_serve.proofs.Pools.{not_anew}
use Rattle.mp_serve.proofs.ScenarioLines.{nothing, same_some, blank_line, does_line, IsSubmit, submits_line}

-- ---- texts

ended : (xs : List ℕ) → or_ok (xs ++ 10 ∷ []) ≡ xs ++ 10 ∷ []
ended [] = refl
ended (x ∷ xs) = refl

pub told_all : (names : Names) (p : ScenarioPool) (request : Request) → or_ok (runs.respond names p request).1 ≡ (runs.respond names p request).1
unfolding answer_text query_text for_text
told_all names p (Change c) = ended (told_text names (answer (accepted_by p.scheme) p.pool c))
told_all names p (Try l) = ended (codes "for" ++ items_text names (keep (accepted_by p.scheme) l p.pool.items))
told_all names p (Read query) = ended (words_text names p.cursor p.pool query)

-- ---- pools

-- the pool of a run, with what only a conversation keeps
abbrev pub served : ScenarioPool → List LedgerState → Counts → ServedPool
served p f r = record { pool = p.pool; signatures = p.scheme; former = f; refused = r; cursor = p.cursor }

abbrev pub former_after : ScenarioPool → List LedgerState → Request → List LedgerState
former_after p f (Change (commands.Submit t)) = f
former_after p f (Change (commands.Remove ids)) = f
former_after p f (Change (commands.Sync l)) = latest (f ++ p.pool.ledger ∷ [])
former_after p f (Try l) = f
former_after p f (Read query) = f

abbrev pub counts_after : ScenarioPool → Counts → Request → Counts
counts_after p r (Change (commands.Submit t)) = counted_if r (result_err (answer (accepted_by p.scheme) p.pool (commands.Submit t)))
counts_after p r (Change (commands.Remove ids)) = counted_if r (result_err (answer (accepted_by p.scheme) p.pool (commands.Remove ids)))
counts_after p r (Change (commands.Sync l)) = r
counts_after p r (Try l) = r
counts_after p r (Read query) = r

-- the same with this pool
abbrev pub with_pool : ServedPool → Pool → List ℕ → ServedPool × List ℕ
with_pool p pool text = (record p { pool = pool }, text)

responds : (names : Names) (p : ScenarioPool) (f : List LedgerState) (r : Counts) (request : Request) → HasRoom (Open (runs.respond names p request).0)
    → respond_plainly names (served p f r) request
    ≡ (served (runs.respond names p request).0 (former_after p f request) (counts_after p r request), (runs.respond names p request).1)
responds names p f r (Change (commands.Submit t)) room =
    ap (λ q. with_pool (served p f (counts_after p r (Change (commands.Submit t)))) q (answer_text names (answer (accepted_by p.scheme) p.pool (commands.Submit t))))
    (not_anew (next (accepted_by p.scheme) p.pool (commands.Submit t)) room)
responds names p f r (Change (commands.Remove ids)) room =
    ap (λ q. with_pool (served p f (counts_after p r (Change (commands.Remove ids)))) q (answer_text names (answer (accepted_by p.scheme) p.pool (commands.Remove ids))))
    (not_anew (next (accepted_by p.scheme) p.pool (commands.Remove ids)) room)
responds names p f r (Change (commands.Sync l)) room =
    ap (λ q. with_pool (served p (latest (f ++ p.pool.ledger ∷ [])) r) q (answer_text names (answer (accepted_by p.scheme) p.pool (commands.Sync l))))
    (not_anew (next (accepted_by p.scheme) p.pool (commands.Sync l)) room)
responds names p f r (Try l) room = refl
responds names p f r (Read query) room = refl

-- ---- sessions

abbrev pub stage_with : Stage ScenarioPool → List LedgerState → Counts → Stage ServedPool
stage_with (Before b) f r = Before b
stage_with (Open p) f r = Open (served p f r)

abbrev pub session_with : Session ScenarioPool → List LedgerState → Counts → Session ServedPool
session_with s f r = record { names = s.names; settings = s.settings; stage = stage_with s.stage f r }

abbrev pub conversation_with : ℕ → Scene → List LedgerState → Counts → Conversation
conversation_with most s f r = record { signatures = s.signatures; session = session_with s.session f r; staged = nothing_staged 0; most_names = most; line = 1 }

abbrev pub former_in : Stage ScenarioPool → List LedgerState → List LedgerState
former_in (Before b) f = []
former_in (Open p) f = f

abbrev pub counts_in : Stage ScenarioPool → Counts → Counts
counts_in (Before b) r = none_counted
counts_in (Open p) r = r

opens : (scheme : Scheme) (g : Settings) (stage : Stage ScenarioPool) (f : List LedgerState) (r : Counts)
    → talk.served_at scheme g (stage_with stage f r) ≡ served (runs.pool_at scheme g stage) (former_in stage f) (counts_in stage r)
opens scheme g (Before b) f r = refl
opens scheme g (Open p) f r = refl

-- a request leads to the same pool and the same text
record AsksAlike (most : ℕ) (s : Scene) (f : List LedgerState) (r : Counts) (request : Request) : Type 0 where
  pub former : List LedgerState
  pub counts : Counts
  pub same : talk.ask (conversation_with most s f r) (Plain request) ≡ (conversation_with most (runs.ask s request).0 former counts, (runs.ask s request).1)

asks_alike : (most : ℕ) (s : Scene) (f : List LedgerState) (r : Counts) (request : Request) → HasRoom (runs.ask s request).0.session.stage → AsksAlike most s f r request
asks_alike most s f r request room =
    let stage : Stage ScenarioPool = s.session.stage in
    let p : ScenarioPool = runs.pool_at s.signatures s.session.settings stage in
    let c : Conversation = conversation_with most s f r in
    record {
      former = former_after p (former_in stage f) request;
      counts = counts_after p (counts_in stage r) request;
      same = ap (λ q. talk.with_response c (respond s.session.names q (Plain request))) (opens s.signatures s.session.settings stage f r)
          ∙ ap (talk.with_response c) (responds s.session.names p (former_in stage f) (counts_in stage r) request room);
    }

sets : (s : Session ScenarioPool) (f : List LedgerState) (r : Counts) (setting : Setting) (stage : Stage ScenarioPool)
    → sessions.set_at (session_with s f r) setting (stage_with stage f r) ≡ option_map (λ q. session_with q f r) (sessions.set_at s setting stage)
sets s f r setting (Before b) = by (with_setting s.settings setting)
  where
    by : (o : Option Settings) → option_map (λ g. record (session_with s f r) { settings = g }) o ≡ option_map (λ q. session_with q f r) (option_map (λ g. record s { settings = g }) o)
    by None = refl
    by (Some g) = refl
sets s f r setting (Open p) = refl

puts_out : (s : Session ScenarioPool) (f : List LedgerState) (r : Counts) (name : List ℕ) (p : Payment) (stage : Stage ScenarioPool)
    → sessions.output_at (session_with s f r) name p (stage_with stage f r) ≡ option_map (λ q. session_with q f r) (sessions.output_at s name p stage)
puts_out s f r name p (Before b) = by (with_out b p)
  where
    by : (o : Option Beginning) → option_map (sessions.with_named (session_with s f r) name p b) o ≡ option_map (λ q. session_with q f r) (option_map (sessions.with_named s name p b) o)
    by None = refl
    by (Some new) = refl
puts_out s f r name p (Open q) = refl

declared : (o : Option (Session ScenarioPool)) (f : List LedgerState) (r : Counts)
    → sessions.declares (option_map (λ q. session_with q f r) o) ≡ option_map (λ q. (session_with q.0 f r, q.1)) (sessions.declares o)
declared None f r = refl
declared (Some s) f r = refl

-- a line declares and asks the same
takes : (s : Session ScenarioPool) (f : List LedgerState) (r : Counts) (l : Line)
    → sessions.take (session_with s f r) l ≡ option_map (λ q. (session_with q.0 f r, q.1)) (sessions.take s l)
takes s f r Blank = refl
takes s f r (Sets setting) = ap sessions.declares (sets s f r setting s.stage) ∙ declared (sessions.set_at s setting s.stage) f r
takes s f r (Script named) = refl
takes s f r (Data named) = refl
takes s f r (Out name p) = ap sessions.declares (puts_out s f r name p s.stage) ∙ declared (sessions.output_at s name p s.stage) f r
takes s f r (Tx name t) = refl
takes s f r (Submit t) = refl
takes s f r (Remove ids) = refl
takes s f r (Sync l) = refl
takes s f r (For l) = refl
takes s f r (Asks query) = refl

-- ---- lines

-- the conversation answers as the run, and goes on like it
record FollowsLine (most : ℕ) (step : Option (Conversation × List ℕ)) (text : List ℕ) (t : Scene) : Type 0 where
  pub former : List LedgerState
  pub counts : Counts
  pub same : step ≡ Some (conversation_with most t former counts, or_ok text)

-- what the line asks
asks_if : (most : ℕ) (s : Scene) (f : List LedgerState) (r : Counts) (request : Option Request) (text : List ℕ) (t : Scene) → runs.ask_if s request ≡ (t, text)
    → HasRoom t.session.stage → FollowsLine most (Some (talk.ask_if (conversation_with most s f r) request)) text t
asks_if most s f r None text t e room = record {
  former = f;
  counts = r;
  same = ap (λ (x : Scene × List ℕ). Some (conversation_with most x.0 f r, or_ok x.1)) e;
}
asks_if most s f r (Some request) text t e room =
    let alike = asks_alike most s f r request (subst (λ (x : Scene × List ℕ). HasRoom x.0.session.stage) (sym e) room) in
    let p : ScenarioPool = runs.pool_at s.signatures s.session.settings s.session.stage in
    record {
      former = alike.former;
      counts = alike.counts;
      same = ap Some (
          alike.same ∙ ap (λ (x : List ℕ). (conversation_with most (runs.ask s request).0 alike.former alike.counts, x)) (sym (told_all s.session.names p request))
          ∙ ap (λ (x : Scene × List ℕ). (conversation_with most x.0 alike.former alike.counts, or_ok x.1)) e
          );
    }

-- what the conversation does after a line was taken
abbrev pub doing : Conversation → Option (Session ServedPool × Option Request) → Option (Conversation × List ℕ)
doing c o = option_map (λ q. talk.ask_if (talk.with_session c q.0) q.1) o

does_taken : (most : ℕ) (s : Scene) (f : List LedgerState) (r : Counts) (text : List ℕ) (t : Scene) → HasRoom t.session.stage → (o : Option (Session ScenarioPool × Option Request))
    → option_map (λ q. runs.ask_if (record s { session = q.0 }) q.1) o ≡ Some (t, text)
    → FollowsLine most (doing (conversation_with most s f r) (option_map (λ q. (session_with q.0 f r, q.1)) o)) text t
does_taken most s f r text t room None e = absurd (nothing (t, text) e)
does_taken most s f r text t room (Some (session, request)) e =
    asks_if most (record s { session = session }) f r request text t (same_some (runs.ask_if (record s { session = session }) request) (t, text) e) room

does : (most : ℕ) (s : Scene) (f : List LedgerState) (r : Counts) (l : Line) (text : List ℕ) (t : Scene) → runs.take s l ≡ Some (t, text) → HasRoom t.session.stage
    → FollowsLine most (talk.does (conversation_with most s f r) l) text t
does most s f r l text t e room =
    subst (λ o. FollowsLine most (doing (conversation_with most s f r) o) text t) (sym (takes s.session f r l)) (does_taken most s f r text t room (sessions.take s.session l) e)

-- a submit under the name that the transaction is reported under changes no name
itself : (word : List ℕ) → pointwise nat_eq word word ≡ true
itself word = (bytes_decides word word).1 refl

reported : (names : Names) (word : List ℕ) (t : Transaction) (a : Result Reply Refusal) → name_of (id_of t) names ≡ word → reported_if names word t a ≡ names
reported names word t (Ok reply) is =
    ap (λ (w : List ℕ). cond (pointwise nat_eq word w) names (with_reported names word)) is ∙ ap (λ b. cond b names (with_reported names word)) (itself word)
reported names word t (Err refusal) is = refl

submits : (most : ℕ) (s : Scene) (f : List LedgerState) (r : Counts) (word : List ℕ) (tx : Transaction) → name_of (id_of tx) s.session.names ≡ word
    → talk.submit (conversation_with most s f r) word tx ≡ talk.ask (conversation_with most s f r) (Plain (Change (commands.Submit tx)))
submits most s f r word tx is =
    let c : Conversation = conversation_with most s f r in
    ap (λ (names : Names). talk.with_response (talk.with_names c names) (respond s.session.names (talk.served_in c) (Plain (Change (commands.Submit tx)))))
    (reported s.session.names word tx (answer_to (talk.served_in c) (commands.Submit tx)) is)

-- ---- one line after another

stepped : (s : Scene) (line : List ℕ) (x : Scene × List ℕ) → runs.line_step s line ≡ Some x → (l : Line) × (line_of s.session.names line ≡ Some l) × (runs.take s l ≡ Some x)
unfolding runs.line_step
stepped s line x = by (line_of s.session.names line) refl
  where
    by : (o : Option Line) → line_of s.session.names line ≡ o → option_and_then (runs.take s) o ≡ Some x → (l : Line) × (line_of s.session.names line ≡ Some l) × (runs.take s l ≡ Some x)
    by None is e = absurd (nothing x e)
    by (Some l) is e = (l, is, e)

submitted : (most : ℕ) (s : Scene) (f : List LedgerState) (r : Counts) (line : List ℕ) (l : Line) (text : List ℕ) (t : Scene) → IsSubmit s.session.names most line l
    → UsesReportedName s.session.names line → runs.take s l ≡ Some (t, text) → HasRoom t.session.stage
    → FollowsLine most (talk.line_step (conversation_with most s f r) line) text t
unfolding talk.line_step
submitted most s f r line l text t is uses e room =
    let c : Conversation = conversation_with most s f r in
    let name : name_of (id_of is.tx.tx) s.session.names ≡ is.word = uses is.word is.tx is.words is.named in
    subst (λ o. FollowsLine most o text t)
    (sym (ap (option_and_then (talk.take c)) is.ask ∙ ap Some (submits most s f r is.word is.tx.tx name)))
    (does most s f r (Submit is.tx.tx) text t (ap (runs.take s) (sym is.submit) ∙ e) room)

plain_line : (most : ℕ) (s : Scene) (f : List LedgerState) (r : Counts) (line : List ℕ) (text : List ℕ) (t : Scene) → IsPlainLine most s line text t
    → FollowsLine most (talk.line_step (conversation_with most s f r) line) text t
unfolding talk.line_step
plain_line most s f r line text t plain =
    let found = stepped s line (t, text) plain.step in
    by found.0 found.1 found.2 (words_of line) refl
  where
    c : Conversation
    c = conversation_with most s f r

    done : (l : Line) → runs.take s l ≡ Some (t, text) → ask_of s.session.names most line ≡ Some (Does l) → FollowsLine most (talk.line_step c line) text t
    done l e asks = subst (λ o. FollowsLine most o text t) (sym (ap (option_and_then (talk.take c)) asks)) (does most s f r l text t e plain.room)

    by : (l : Line) → line_of s.session.names line ≡ Some l → runs.take s l ≡ Some (t, text) → (words : List (List ℕ)) → words_of line ≡ words
        → FollowsLine most (talk.line_step c line) text t
    by l is e [] none = done l e (blank_line s.session.names most line l plain.few none is)
    by l is e (word ∷ words) first = with (pointwise nat_eq word (codes "submit")) refl
      where
        with : (b : Bool) → pointwise nat_eq word (codes "submit") ≡ b → FollowsLine most (talk.line_step c line) text t
        with true same = submitted most s f r line l text t (submits_line s.session.names most line word words l plain.few first is same) plain.name e plain.room
        with false other = done l e (does_line s.session.names most line word words l plain.few first is other)

pub plain_run : (most : ℕ) (s : Scene) (f : List LedgerState) (r : Counts) (lines texts : List (List ℕ)) → IsPlainRun most s lines texts
    → Answers (conversation_with most s f r) lines (map or_ok texts)
plain_run most s f r [] texts none = ap (map or_ok) none
plain_run most s f r (line ∷ lines) texts (text, others, t, all, plain, more) =
    let follows = plain_line most s f r line text t plain in (
      or_ok text,
      map or_ok others,
      conversation_with most t follows.former follows.counts,
      ap (map or_ok) all,
      follows.same,
      plain_run most t follows.former follows.counts lines others more,
    )
