-- The operator's lines before the pool is open.
use Rattle.std.proofs.Common.{◌≡◌, ◌⊎◌, ℕ, false, List, [], ◌∷◌, ◌++◌, inl, inr, refl, sym, ap, subst, ◌∙◌, append-nil}
use Rattle.std.specs.Prelude.{Option, None, Some, IfSome, option_map, option_and_then, Result, Ok, Err}
use Rattle.std.specs.Io.KnownBytes.{IsAtEnd}
use Rattle.std.specs.Io.BufRead.{drop_through, DropsThrough}
use Rattle.mp_tx.specs.Transaction.{Transaction}
use Rattle.mp_tx.specs.Reading.{transaction_of}
use Rattle.mp_tx.specs.declared.fault.TxFault.{TxFault}
use Rattle.mp_tx.specs.declared.reference.OutRef.{OutRef}
use Rattle.mp_tx.specs.declared.output.Output.{Output}
use Rattle.mp_text.specs.Lines.{lines_of}
use Rattle.mp_text.specs.LineInput.{IsLine}
use Rattle.mp_text.specs.declared.line_input.LineRead.TheVariants.{Whole}
use Rattle.mp_names.specs.declared.payment.Payment.{Payment}
use Rattle.mp_names.specs.declared.settings.Setting.{Setting}
use Rattle.mp_lines.specs.Lines as lines
use Rattle.mp_session.specs.Beginning.{Beginning, with_out, with_utxo}
use Rattle.mp_session.specs.Settings.{with_setting}
use Rattle.mp_session.specs.declared.settings.Settings.{Settings}
use Rattle.mp_session.specs.declared.session.Session.{Session}
use Rattle.mp_session.specs.declared.session.Stage.{Stage}
use Rattle.mp_session.specs.declared.session.Stage.TheVariants.{Before, Open}
use Rattle.mp_session.specs.Session.{set_at, output_at, hold_at, declares, with_named, with_beginning}
use Rattle.mp_serve.specs.ServedPool.{ServedPool}
use Rattle.mp_serve.specs.declared.conversation.Conversation.{Conversation}
use Rattle.mp_serve.specs.Ask as asks
use Rattle.mp_serve.specs.Ask.{Ask, NewBlock, longest, ask_of}
use Rattle.mp_serve.specs.Request.{Check}
use Rattle.mp_serve.specs.Staged.{Staged, add_txs, add_output}
use Rattle.mp_serve.specs.TxWord.{TxWord, Named, Pooled, tx_held, tx_meant, put_meant}
use Rattle.mp_serve.specs.Served.{IsBadLine, IsTold, IsAnswer, AreAnswers}
use Rattle.mp_serve.specs.Talk.{Step, take as taken, line_step, with_session, ask, ask_if, adopt, block_at, with_staging, stage_bytes, reset_at}
use Rattle.mp_serve.specs.Texts.{ok_text, show_text, no_memory_text}
use Rattle.mp_serve.proofs.Lines.{first_through}
use Rattle.mp_serve.proofs.Progress.{Progress, Stands}
use Rattle.std.specs.List.{list_all}
use Rattle.mp_clients.specs.Asking.{does_open, is_named, opens}
use Rattle.mp_clients.specs.Beginning.{IsBefore, Opens, HasCome, AreAll}
use Rattle.mp_clients.specs.Inside.Before.{IsStepTold}

-- ---- the pool isn't opened

none_held : (stage : Stage ServedPool) (id : List ℕ) → IsBefore stage → tx_held stage id ≡ None
none_held (Before b) id before = refl
none_held (Open p) id before = absurd before

none_meant : (stage : Stage ServedPool) (txs : List Transaction) (words : List TxWord) → IsBefore stage → list_all is_named words ≡ false
    → put_meant stage txs words ≡ None
none_meant stage txs [] before e = Prim.cc
none_meant stage txs (Named t ∷ words) before e = none_meant stage (txs ++ t ∷ []) words before e
none_meant stage txs (Pooled id ∷ words) before e =
    ap (option_and_then (λ t. put_meant stage (txs ++ t ∷ []) words)) (none_held stage id before)

module _ (c : Conversation) (before : IsBefore c.session.stage) where
  -- the pool isn't open after the step
  abbrev Stays : Step → Type 0
  Stays step = IfSome step (λ r. IsBefore r.0.session.stage)

  abbrev IsKept : Option (Session ServedPool) → Type 0
  IsKept o = IfSome o (λ s. IsBefore s.stage)

  declared : (o : Option (Session ServedPool)) → IsKept o → Stays (option_map (λ r. ask_if (with_session c r.0) r.1) (declares o))
  declared None kept = tt
  declared (Some s) kept = kept

  with_settings : (o : Option Settings) → IsKept (option_map (λ g. record c.session { settings = g }) o)
  with_settings None = tt
  with_settings (Some g) = before

  sets : (setting : Setting) (stage : Stage ServedPool) → IsKept (set_at c.session setting stage)
  sets setting (Before b) = with_settings (with_setting c.session.settings setting)
  sets setting (Open p) = tt

  named : (name : List ℕ) (p : Payment) (b : Beginning) (o : Option Beginning) → IsKept (option_map (with_named c.session name p b) o)
  named name p b None = tt
  named name p b (Some new) = tt

  puts : (name : List ℕ) (p : Payment) (stage : Stage ServedPool) → IsKept (output_at c.session name p stage)
  puts name p (Before b) = named name p b (with_out b p)
  puts name p (Open q) = tt

  held : (o : Option Beginning) → Stays (option_map (λ s. (with_session c s, ok_text)) (option_map (with_beginning c.session) o))
  held None = tt
  held (Some b) = tt

  holds : (r : OutRef) (o : Output) (stage : Stage ServedPool) → Stays (option_map (λ s. (with_session c s, ok_text)) (hold_at c.session r o stage))
  holds r o (Before b) = held (with_utxo b r o)
  holds r o (Open p) = tt

  shows : (o : Option Transaction) → Stays (option_map (λ t. (c, show_text t)) o)
  shows None = tt
  shows (Some t) = before

  checks : (word : TxWord) → is_named word ≡ false → Stays (taken c (asks.Checks word))
  checks (Named t) e = Prim.cc
  checks (Pooled id) e =
      subst (λ (o : Option Transaction). Stays (option_map (λ t. ask c (Check t)) o)) (sym (none_held c.session.stage id before)) tt

  extends_by : (tick : ℕ) (bytes : Option ℕ) (words : List TxWord) → list_all is_named words ≡ false
      → Stays (taken c (asks.Extends (record { tick = tick; block_bytes = bytes; txs = words })))
  extends_by tick bytes [] e = Prim.cc
  extends_by tick bytes (word ∷ words) e =
      subst (λ (o : Option (List Transaction)). Stays (option_map (λ txs. adopt c (block_at c.session.settings (record { tick = tick; block_bytes = bytes; txs = word ∷ words }) txs)) o))
      (sym (none_meant c.session.stage [] (word ∷ words) before e)) tt

  extends : (b : NewBlock) → list_all is_named b.txs ≡ false → Stays (taken c (asks.Extends b))
  extends b e = extends_by b.tick b.block_bytes b.txs e

  -- nothing that is staged opens it
  stages : (found : Result Transaction TxFault) → IsBefore (stage_bytes c found).0.session.stage
  stages (Ok t) = before
  stages (Err fault) = before

  stages_held : (o : Option (List Transaction)) → Stays (option_map (λ txs. with_staging c (add_txs c.staged txs)) o)
  stages_held None = tt
  stages_held (Some txs) = before

  stages_output : (o : Option (Staged × List ℕ)) → Stays (option_map (with_staging c) o)
  stages_output None = tt
  stages_output (Some r) = before

  resets : (stage : Stage ServedPool) → IsBefore stage → Stays (reset_at c stage)
  resets (Before b) at = tt
  resets (Open p) at = absurd at

  does_stay : (line : lines.Line) → does_open line ≡ false → Stays (taken c (asks.Does line))
  does_stay lines.Blank e = before
  does_stay (lines.Sets s) e = declared (set_at c.session s c.session.stage) (sets s c.session.stage)
  does_stay (lines.Script s) e = before
  does_stay (lines.Data s) e = before
  does_stay (lines.Out n p) e = declared (output_at c.session n p c.session.stage) (puts n p c.session.stage)
  does_stay (lines.Tx n t) e = before
  does_stay (lines.Submit t) e = Prim.cc
  does_stay (lines.Remove ids) e = Prim.cc
  does_stay (lines.Sync l) e = Prim.cc
  does_stay (lines.For l) e = Prim.cc
  does_stay (lines.Asks q) e = Prim.cc

  stays : (ask : Ask) → opens ask ≡ false → Stays (taken c ask)
  stays (asks.Does line) e = does_stay line e
  stays (asks.Reads n b) e = before
  stays (asks.Submits n t) e = Prim.cc
  stays (asks.SubmitsBytes b) e = Prim.cc
  stays (asks.Shows w) e = shows (tx_meant c.session.stage w)
  stays (asks.Checks w) e = checks w e
  stays asks.Counts e = Prim.cc
  stays (asks.Holds r o) e = holds r o c.session.stage
  stays (asks.Extends b) e = extends b e
  stays (asks.Stages bytes) e = stages (transaction_of bytes)
  stays (asks.StagesHeld words) e = stages_held (put_meant c.session.stage [] words)
  stays (asks.StagesOutput r o) e = stages_output (add_output c.staged r o)
  stays asks.Unstages e = before
  stays (asks.Syncs n b) e = Prim.cc
  stays (asks.Returns n) e = Prim.cc
  stays (asks.Forgets ns) e = before
  stays (asks.ReportsById b) e = before
  stays asks.Resets e = resets c.session.stage before

  pub still_before : (ask : Ask) (u : Conversation) (text : List ℕ) → opens ask ≡ false → taken c ask ≡ Some (u, text) → IsBefore u.session.stage
  still_before ask u text e is = subst Stays is (stays ask e)

-- ---- answers

module _ (c : Conversation) (line text : List ℕ) (u : Conversation) where
  step_of : (o : Option Ask) → ask_of c.session.names c.most_names line ≡ o → line_step c line ≡ option_and_then (taken c) o
  unfolding line_step
  step_of o e = ap (option_and_then (taken c)) e

  -- the line asks this
  pub asked_line : (ask : Ask) → ask_of c.session.names c.most_names line ≡ Some ask → IsStepTold c.line c (taken c ask) text u → IsAnswer c.line c line text u
  asked_line ask e is = subst (λ (s : Step). IsStepTold c.line c s text u) (sym (step_of (Some ask) e)) is

-- the line isn't in the language
pub bad_line : (c : Conversation) (line text : List ℕ) → ask_of c.session.names c.most_names line ≡ None → IsBadLine c.line text ⊎ (text ≡ no_memory_text) → IsAnswer c.line c line text c
bad_line c line text e (inl bad) = inl (subst (λ (s : Step). IsTold c.line c s text c) (sym (step_of c line text c None e)) (bad, refl))
bad_line c line text e (inr none) = inr (none, refl)

-- ---- the lines so far

module _ (g : Conversation) (old now : Option (List ℕ)) (s : Conversation) (n : ℕ) where
  -- at the end of the input
  pub all_told : (all left : Option (List ℕ)) → Stands g all left old now s n → IsAtEnd left → IfSome all (λ bytes. AreAll g bytes old now s)
  all_told None left i end = tt
  all_told (Some bytes) left (rest, is, p) end =
      let none : rest ≡ [] = subst IsAtEnd is end in
      let done : lines_of bytes ≡ p.lines = p.whole ∙ ap (λ l. p.lines ++ lines_of l) none ∙ append-nil p.lines in
      (p.text, subst (λ l. AreAnswers g l p.text s) (sym done) p.told, p.wrote)

  module _ (left after : Option (List ℕ)) (kept : List ℕ) (dropped : DropsThrough left after 10)
      (line : IfSome left (λ bytes. IsLine longest bytes Whole kept)) (opens_it : Opens s.session.names s.most_names kept) where
    come : (bytes rest : List ℕ) (p : Progress g old now (lines_of bytes) (lines_of rest) s n) → IsLine longest rest Whole kept → after ≡ Some (drop_through 10 rest) → HasCome g bytes old now kept s after
    come bytes [] p is to = absurd (is.0 refl)
    come bytes (x ∷ xs) p is to = record {
      lines = p.lines;
      rest = drop_through 10 (x ∷ xs);
      text = p.text;
      whole = p.whole ∙ ap (λ l. p.lines ++ l) (first_through x xs) ∙ ap (λ l. p.lines ++ l ∷ lines_of (drop_through 10 (x ∷ xs))) (sym is.2);
      told = p.told;
      wrote = p.wrote;
      opens_it = opens_it;
      left_is = to;
    }

    dropped_to : (rest : List ℕ) → left ≡ Some rest → after ≡ Some (drop_through 10 rest)
    dropped_to rest is = subst (λ o. DropsThrough o after 10) is dropped

    -- at the line that opens the pool
    pub has_come : (all : Option (List ℕ)) → Stands g all left old now s n → IfSome all (λ bytes. HasCome g bytes old now kept s after)
    has_come None i = tt
    has_come (Some bytes) (rest, is, p) =
        come bytes rest p (subst (λ o. IfSome o (λ bytes. IsLine longest bytes Whole kept)) is line) (dropped_to rest is)
