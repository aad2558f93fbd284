-- How a line of a conversation is answered, over a pool that others change at the same time.
use Rattle.std.specs.Prelude.{◌≡◌, ◌⊎◌, ℕ, ◌-◌, List, [], ◌∷◌, ◌++◌, length, take, Option, None, Some, Result, Ok, Err}
use Rattle.std.specs.Result.{result_err}
use Rattle.std.specs.Arc.{arc_value}
use Rattle.mp_tx.specs.Transaction.{Transaction}
use Rattle.mp_tx.specs.Reading.{transaction_of}
use Rattle.mp_tx.specs.Spelling.{id_of}
use Rattle.mp_tx.specs.declared.fault.TxFault.{TxFault}
use Rattle.mp_tx.specs.Ledger.{LedgerState}
use Rattle.mp_rules.specs.declared.invalid.Invalid.{Invalid}
use Rattle.mp_rules.specs.Verifier.{Accepts}
use Rattle.mp_rules.specs.Block.{apply_block}
use Rattle.mp_seqpool.specs.declared.refusal.Refusal.{Refusal}
use Rattle.mp_seqpool.specs.declared.command.Reply.{Reply}
use Rattle.mp_seqpool.specs.Command as commands
use Rattle.mp_seqpool.specs.Command.{Command}
use Rattle.mp_history.specs.Entry.{Entry}
use Rattle.mp_mempool.specs.Pass.{Pass}
use Rattle.mp_mempool.specs.Seen.{IsSeen}
use Rattle.mp_mempool.specs.Answers.{IsEntered, IsRefusedAt}
use Rattle.mp_names.specs.Names.{Names}
use Rattle.mp_lines.specs.Lines.{Submit, Remove, Sync}
use Rattle.mp_session.specs.Ledgers.{ledger_at}
use Rattle.mp_answers.specs.AnswerText.{answer_text, given_text}
use Rattle.mp_serve.specs.Ask.{Ask, NewBlock, Does, Submits, SubmitsBytes, Extends, Syncs, Returns}
use Rattle.mp_serve.specs.Refused.{counted_if}
use Rattle.mp_serve.specs.Refused.{one_more}
use Rattle.mp_serve.specs.Request.{ResolvedBlock, reported_if, one_adopt_more, one_back_more}
use Rattle.mp_session.specs.Settings.{salt_of}
use Rattle.mp_serve.specs.TxWord.{TxWord}
use Rattle.mp_serve.specs.declared.used.Used.{Used}
use Rattle.mp_serve.specs.declared.used.Used.TheVariants.{Nothing, Txs, Outputs}
use Rattle.mp_serve.specs.Staged.{Staged, no_outputs, without, staged_ledger}
use Rattle.mp_serve.specs.ServedPool.{latest, state_back}
use Rattle.mp_serve.specs.Served.{IsBadLine}
use Rattle.mp_serve.specs.Talk as alone
use Rattle.mp_serve.specs.Texts.{no_memory_text, bytes_text, block_refused_text, back_refused_text}
use Rattle.mp_clients.specs.declared.conversation.Conversation.{Conversation}
use Rattle.mp_clients.specs.declared.fault.ClientFault.{ClientFault}
use Rattle.mp_clients.specs.declared.fault.ClientFault.TheVariants as faults
use Rattle.mp_clients.specs.Client.{Client}
use Rattle.mp_clients.specs.Alone.{alone_at, stage_of}
use Rattle.mp_clients.specs.Asking.{asked_by}

-- ---- what a change makes of a client, by its answer and the pass afterwards

-- the client has seen more of the pool
abbrev pub moved : Client → Result Reply Refusal → Pass → Client
moved k a pass = record k { pass = pass }

-- a ledger state is adopted; the former ones are given
abbrev pub adopted : Client → LedgerState → List LedgerState → Result Reply Refusal → Pass → Client
adopted k l former (Ok reply) pass = record k { pass = pass; ledger = l; former = former }
adopted k l former (Err refusal) pass = record k { pass = pass }

-- a new ledger state
abbrev pub gone_on : Client → LedgerState → Result Reply Refusal → Pass → Client
gone_on k l a pass = adopted k l (latest (k.former ++ k.ledger ∷ [])) a pass

-- the ledger state this many steps ago
abbrev pub gone_back : Client → LedgerState → ℕ → Result Reply Refusal → Pass → Client
gone_back k l count a pass = adopted k l (take (length k.former - count) k.former) a pass

-- a refusal is counted
abbrev pub counting : Result Reply Refusal → Client → Client
counting a k = record k { refused = counted_if k.refused (result_err a) }

-- the names stay
abbrev pub same_names : {N : Type 0} → Conversation N → Result Reply Refusal → Names
same_names c a = c.names

-- what is staged stays
abbrev pub same_staged : {N : Type 0} → Conversation N → Result Reply Refusal → Staged
same_staged c a = c.staged

-- what the change used isn't staged any more, if it is made
abbrev pub unstaged : Staged → Used → Result Reply Refusal → Staged
unstaged s used (Ok reply) = without s used
unstaged s used (Err refusal) = s

-- what a block uses: without words, the staged transactions
abbrev pub used_by : List TxWord → Used
used_by [] = Txs
used_by (word ∷ words) = Nothing

abbrev pub with_client : {N : Type 0} → Conversation N → Client → Conversation N
with_client c k = record c { client = k }

-- after one more line, whose number is at most 2^64 - 1
abbrev pub counted : {N : Type 0} → Conversation N → Conversation N
counted c = record c { line = one_more c.line }

-- The verifier decides which signatures are good.
module _ (accepts : Accepts) (callers : ℕ) where
  -- The pool's answer to a change. An entry is the caller's own, and follows those of others; a refusal is that of the pool that
  -- the caller has then seen.
  abbrev pub IsAnswerTo : Pass → Command → Result Reply Refusal → Pass → Type 0
  IsAnswerTo before command (Ok reply) after =
      (place : ℕ) × (e : Entry) × IsEntered accepts callers before command place e after × (e.reply ≡ reply)
  IsAnswerTo before command (Err refusal) after = IsRefusedAt accepts callers before command refusal after

  -- A change was asked. `does` says what it makes of the client.
  pub record IsAsked (k : Client) (command : Command) (does : Result Reply Refusal → Pass → Client) (a : Result Reply Refusal)
      (after : Client) : Type 0 where
    pub answer : IsAnswerTo k.pass command a after.pass
    pub after_is : after ≡ does a after.pass

  -- A client has looked at the pool, and nothing else has changed.
  pub record HasLooked (k after : Client) : Type 0 where
    pub seen : IsSeen accepts callers k.pass after.pass
    pub same : after ≡ record k { pass = after.pass }

  module _ {N : Type 0} where
    -- The line is answered as it would be alone, with the pool that the conversation has then seen.
    pub record IsAnsweredAlone (c : Conversation N) (ask : Ask) (text : List ℕ) (u : Conversation N) : Type 0 where
      pub seen : IsSeen accepts callers c.client.pass u.client.pass
      pub step : alone.take (alone_at accepts c u.client.pass.front) ask ≡ Some (alone_at accepts u u.client.pass.front, text)
      pub ledger : u.client.ledger ≡ c.client.ledger

    -- The line makes a change, and the text is the pool's answer. An accepted transaction may get a name, and what was staged may be
    -- used.
    pub record IsAnsweredBy (c : Conversation N) (command : Command) (does : Result Reply Refusal → Pass → Client)
        (names : Result Reply Refusal → Names) (staged : Result Reply Refusal → Staged) (says : Result Reply Refusal → List ℕ)
        (text : List ℕ) (u : Conversation N) : Type 0 where
      pub answer : Result Reply Refusal
      pub pass : Pass
      pub asked : IsAsked c.client command does answer (does answer pass)
      pub text_is : text ≡ says answer
      pub after : u ≡ record c { names = names answer; client = counting answer (does answer pass); staged = staged answer }

    -- the same if the names and what is staged stay, and the text is that of the answer alone
    abbrev pub IsDone : Conversation N → Command → (Result Reply Refusal → Pass → Client) → List ℕ → Conversation N → Type 0
    IsDone c command does text u = IsAnsweredBy c command does (same_names c) (same_staged c) (answer_text c.names) text u

    -- the transaction is submitted under a name
    abbrev pub IsSubmitted : Conversation N → List ℕ → Transaction → List ℕ → Conversation N → Type 0
    IsSubmitted c name t text u =
        IsAnsweredBy c (commands.Submit t) (moved c.client) (reported_if c.names name t) (same_staged c) (answer_text c.names) text u

    -- the transaction with these bytes is submitted, if there is one; it has no name
    abbrev pub IsGiven : Conversation N → Result Transaction TxFault → List ℕ → Conversation N → Type 0
    IsGiven c (Ok t) text u =
        IsAnsweredBy c (commands.Submit t) (moved c.client) (same_names c) (same_staged c) (λ a. given_text c.names a (id_of t)) text u
    IsGiven c (Err fault) text u = (text ≡ bytes_text (Err fault)) × (u ≡ c)

    -- a ledger state is adopted, which uses some of what is staged
    abbrev pub IsSynced : Conversation N → LedgerState → Used → List ℕ → Conversation N → Type 0
    IsSynced c l used text u =
        IsAnsweredBy c (commands.Sync l) (gone_on c.client l) (same_names c) (unstaged c.staged used) (answer_text c.names) text u

    -- the ledger state after the block is adopted, if it has one
    abbrev pub IsExtended : Conversation N → Used → List Transaction → Result LedgerState (ℕ × Invalid) → List ℕ → Conversation N → Type 0
    IsExtended c used txs (Ok l) text u = IsSynced c l used text u
    IsExtended c used txs (Err r) text u =
        (text ≡ block_refused_text c.names txs r.0 r.1)
        × (u ≡ with_client c (record c.client { refused = one_adopt_more c.client.refused }))

    abbrev pub IsExtendedBy : Conversation N → Used → ResolvedBlock → List ℕ → Conversation N → Type 0
    IsExtendedBy c used b text u =
        IsExtended c used b.txs (apply_block accepts c.client.ledger b.tick b.block_bytes b.txs) text u

    -- The words of the block mean these transactions, by the pool that the conversation has first looked at. Without words they are
    -- those that are staged.
    pub record IsExtendedAt (c : Conversation N) (b : NewBlock) (text : List ℕ) (u : Conversation N) : Type 0 where
      pub client : Client
      pub txs : List Transaction
      pub looked : HasLooked c.client client
      pub meant : alone.block_txs c.staged (stage_of accepts client) b.txs ≡ Some txs
      pub extended : IsExtendedBy (with_client c client) (used_by b.txs) (alone.block_at (arc_value c.settings) b txs) text u

    -- the ledger state that has the staged outputs is adopted
    abbrev pub IsSyncedStaged : Conversation N → ℕ → Option ℕ → List ℕ → Conversation N → Type 0
    IsSyncedStaged c tick block_bytes text u =
        IsSynced c (staged_ledger (arc_value c.settings) c.staged tick block_bytes)
        (Outputs (no_outputs (salt_of (arc_value c.settings)))) text u

    -- the ledger state this many steps ago is adopted, if it is kept
    abbrev pub IsReturned : Conversation N → ℕ → Option LedgerState → List ℕ → Conversation N → Type 0
    IsReturned c count (Some l) text u = IsDone c (commands.Sync l) (gone_back c.client l count) text u
    IsReturned c count None text u =
        (text ≡ back_refused_text (length c.client.former))
        × (u ≡ with_client c (record c.client { refused = one_back_more c.client.refused }))

    -- Changes are answered by the pool, and go by what the conversation itself adopted. All else is answered as it would be alone.
    abbrev pub IsTaken : Conversation N → Ask → List ℕ → Conversation N → Type 0
    IsTaken c (Does (Submit t)) text u = IsDone c (commands.Submit t) (moved c.client) text u
    IsTaken c (Does (Remove ids)) text u = IsDone c (commands.Remove ids) (moved c.client) text u
    IsTaken c (Does (Sync l)) text u = IsSynced c (ledger_at (arc_value c.settings) l) Nothing text u
    IsTaken c (Submits name t) text u = IsSubmitted c name t text u
    IsTaken c (SubmitsBytes bytes) text u = IsGiven c (transaction_of bytes) text u
    IsTaken c (Extends block) text u = IsExtendedAt c block text u
    IsTaken c (Syncs tick block_bytes) text u = IsSyncedStaged c tick block_bytes text u
    IsTaken c (Returns count) text u = IsReturned c count (state_back c.client.former c.client.ledger count) text u
    IsTaken c ask text u = IsAnsweredAlone c ask text u

    -- The line is bad with the pool that the conversation has then seen: that holds no transaction with an id of the line. Nothing
    -- else has changed.
    pub record IsMeaningless (c : Conversation N) (ask : Ask) (text : List ℕ) (u : Conversation N) : Type 0 where
      pub looked : HasLooked c.client u.client
      pub after : u ≡ with_client c u.client
      pub step : alone.take (alone_at accepts c u.client.pass.front) ask ≡ None
      pub text_is : IsBadLine c.line text

    -- Nothing has changed but what the conversation has seen of the pool.
    abbrev pub IsUnchanged : Conversation N → Conversation N → Type 0
    IsUnchanged c u = (u ≡ c) ⊎ (HasLooked c.client u.client × (u ≡ with_client c u.client))

    -- A line that isn't in the language, or that the conversation may not ask, is bad. Any answer may be an allocation failure.
    abbrev pub IsHeard : Conversation N → Option Ask → List ℕ → Conversation N → Type 0
    IsHeard c None text u = (IsBadLine c.line text ⊎ (text ≡ no_memory_text)) × (u ≡ c)
    IsHeard c (Some ask) text u =
        IsTaken c ask text u ⊎ (IsMeaningless c ask text u ⊎ ((text ≡ no_memory_text) × IsUnchanged c u))

    -- the answer to a line
    abbrev pub IsAnswer : Conversation N → List ℕ → List ℕ → Conversation N → Type 0
    IsAnswer c line text u = IsHeard c (asked_by c line) text u

    -- the line is answered and counted
    abbrev pub IsTurn : Conversation N → List ℕ → List ℕ → Conversation N → Type 0
    IsTurn c line text u = (v : Conversation N) × IsAnswer c line text v × (u ≡ counted v)

    -- A change was made, and only its answer and its name are lost.
    pub record IsUntold (c u : Conversation N) : Type 0 where
      pub ask : Ask
      pub text : List ℕ
      pub answered : Conversation N
      pub taken : IsTaken c ask text answered
      pub after : u ≡ record answered { names = c.names }

    -- what may have happened if the conversation ends without an answer
    abbrev pub IsBroken : Conversation N → Conversation N → ClientFault → Type 0
    IsBroken c u faults.Untold = IsUntold c u
    IsBroken c u faults.Foreign = IsUnchanged c u
    IsBroken c u fault = ⊥
