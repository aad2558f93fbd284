-- How a line changes the state of a conversation.
use Rattle.std.specs.Prelude.{ℕ, ◌&&◌, nat_eq, Bool, not, true, false, List, [], ◌∷◌, filter, length, Option, Some, None, is_some, option_map, option_and_then, unwrap_or, Result, Ok, Err, if◌then◌else◌}
use Rattle.std.specs.Cmp.Lexicographic.{pointwise}
use Rattle.mp_tx.specs.declared.reference.OutRef.{OutRef}
use Rattle.mp_tx.specs.declared.output.Output.{Output}
use Rattle.mp_tx.specs.Transaction.{Transaction}
use Rattle.mp_tx.specs.declared.fault.TxFault.{TxFault}
use Rattle.mp_tx.specs.Reading.{transaction_of}
use Rattle.mp_tx.specs.Spelling.{id_of}
use Rattle.mp_seqpool.specs.Command as commands
use Rattle.mp_seqpool.specs.SlowPool.{empty_pool, ticket_of}
use Rattle.mp_names.specs.declared.names.Binding.{Binding}
use Rattle.mp_names.specs.declared.names.Binding.TheVariants.{Opening, Made}
use Rattle.mp_names.specs.Names.{Names, first_names, binding_named, with_binding, without_bindings, name_of, reporting_by_id}
use Rattle.mp_lines.specs.Lines.{Line}
use Rattle.mp_session.specs.declared.settings.Settings.{Settings}
use Rattle.mp_session.specs.Beginning.{Beginning, opening_ledger}
use Rattle.mp_session.specs.declared.session.Session.{Session}
use Rattle.mp_session.specs.declared.session.Stage.{Stage}
use Rattle.mp_session.specs.declared.session.Stage.TheVariants.{Before, Open}
use Rattle.mp_session.specs.Settings.{block_bytes_of, limit_of, last_of, salt_of}
use Rattle.mp_session.specs.Session.{new_session, hold_at}
use Rattle.mp_session.specs.Session as sessions
use Rattle.mp_session.specs.Request as requests
use Rattle.mp_signatures.specs.declared.scheme.Scheme.{Scheme}
use Rattle.mp_serve.specs.declared.conversation.Conversation.{Conversation}
use Rattle.mp_serve.specs.Ask.{Ask, NewBlock, Does, Reads, Submits, SubmitsBytes, Shows, Checks, Counts, Holds, Extends, Stages, StagesHeld, StagesOutput, Unstages, Syncs, Returns, Forgets, ReportsById, Resets, ask_of}
use Rattle.mp_serve.specs.Refused.{none_counted, one_more}
use Rattle.mp_serve.specs.ServedPool.{ServedPool}
use Rattle.mp_serve.specs.TxWord.{TxWord, tx_meant, put_meant}
use Rattle.mp_serve.specs.declared.used.Used.TheVariants.{Txs, Outputs}
use Rattle.mp_serve.specs.Staged.{Staged, no_outputs, nothing_staged, add_txs, add_read, add_output, staged_ledger}
use Rattle.mp_serve.specs.Staged as staged
use Rattle.mp_serve.specs.Request.{ResolvedBlock, Request, Response, Plain, Return, Check, Give, Count, do_command, respond, adopt_block, is_adopted, answer_to, reported_if}
use Rattle.mp_serve.specs.Texts.{ok_text, bytes_text, show_text, forgotten_text}

-- before the first line
abbrev pub new_conversation : Scheme → ℕ → ℕ → Conversation
new_conversation signatures salt most_names = record {
  signatures = signatures;
  session = new_session salt;
  staged = nothing_staged salt;
  most_names = most_names;
  line = 1;
}

-- after one more line, whose number is at most 2^64 - 1
abbrev pub counted : Conversation → Conversation
counted c = record c { line = one_more c.line }

-- the state after a line, and the answer
abbrev pub Step : Type 0
Step = Option (Conversation × List ℕ)

abbrev pub with_session : Conversation → Session ServedPool → Conversation
with_session c session = record c { session = session }

-- ---- the pool

-- the empty pool on the opening outputs
abbrev pub opened : Scheme → Settings → Beginning → ServedPool
opened signatures g b = record {
  pool = empty_pool (limit_of g) (last_of g) (opening_ledger g b);
  signatures = signatures;
  former = [];
  refused = none_counted;
  cursor = 0;
}

-- the pool opens with the first request
abbrev pub served_at : Scheme → Settings → Stage ServedPool → ServedPool
served_at signatures g (Before b) = opened signatures g b
served_at signatures g (Open p) = p

abbrev pub served_in : Conversation → ServedPool
served_in c = served_at c.signatures c.session.settings c.session.stage

abbrev pub with_staged : Conversation → Staged → Conversation
with_staged c s = record c { staged = s }

abbrev pub with_response : Conversation → Response → Conversation × List ℕ
with_response c r = (with_session c (record c.session { stage = Open r.0 }), r.1)

-- the pool responds
abbrev pub ask : Conversation → Request → Conversation × List ℕ
ask c request = with_response c (respond c.session.names (served_in c) request)

abbrev pub with_names : Conversation → Names → Conversation
with_names c names = with_session c (sessions.with_names c.session names)

-- the transaction is submitted; if it is accepted, it is reported under the name from then on
abbrev pub submit : Conversation → List ℕ → Transaction → Conversation × List ℕ
submit c name t =
    with_response
    (with_names c (reported_if c.session.names name t (answer_to (served_in c) (commands.Submit t))))
    (do_command c.session.names (served_in c) (commands.Submit t))

-- ---- names

-- whether the pool holds a transaction with this id
abbrev pub is_held : Stage ServedPool → List ℕ → Bool
is_held (Before b) id = false
is_held (Open p) id = is_some (ticket_of id p.pool.items)

-- whether the pool holds the transaction with this id, which is reported under this name
abbrev pub is_reported : Names → Stage ServedPool → List ℕ → List ℕ → Bool
is_reported names stage name id = is_held stage id && pointwise nat_eq name (name_of id names)

-- whether a name with this binding, if it has one, may be forgotten
abbrev pub may_go : Names → Stage ServedPool → List ℕ → Option Binding → Bool
may_go names stage name None = false
may_go names stage name (Some (Opening r p)) = true
may_go names stage name (Some (Made d)) = not (is_reported names stage name (id_of d.tx))

-- those of the names that may be forgotten
abbrev pub names_to_go : Names → Stage ServedPool → List (List ℕ) → List (List ℕ)
names_to_go names stage listed = filter (λ name. may_go names stage name (binding_named name names)) listed

abbrev pub without : Conversation → List (List ℕ) → Conversation × List ℕ
without c goes = (with_names c (without_bindings c.session.names goes), forgotten_text (length goes))

-- the names are forgotten, except those under which transactions of the pool are reported
abbrev pub forget : Conversation → List (List ℕ) → Conversation × List ℕ
forget c names = without c (names_to_go c.session.names c.session.stage names)

-- the name then denotes the transaction, if there is one; what its outputs name by hash isn't known
abbrev pub with_read : Names → List ℕ → Result Transaction TxFault → Names
with_read names name (Ok t) = with_binding names (record { name = name; binding = Made (record { tx = t; payments = [] }) })
with_read names name (Err fault) = names

abbrev pub read : Conversation → List ℕ → Result Transaction TxFault → Conversation × List ℕ
read c name found = (with_names c (with_read c.session.names name found), bytes_text found)

-- the pool submits the transaction with these bytes, if there is one; it has no name
abbrev pub give : Conversation → Result Transaction TxFault → Conversation × List ℕ
give c (Ok t) = ask c (Give t)
give c (Err fault) = (c, bytes_text (Err fault))

abbrev pub report_by_id : Conversation → Bool → Conversation × List ℕ
report_by_id c by_id = (with_names c (reporting_by_id c.session.names by_id), ok_text)

-- all names and all that is staged are forgotten, the peer is offered all again, and the next line has number 1; allowed from the
-- first request on
abbrev pub reset_at : Conversation → Stage ServedPool → Step
reset_at c (Before b) = None
reset_at c (Open p) = Some (
  record c {
    session = record c.session { names = first_names; stage = Open (record p { cursor = 0 }) };
    staged = nothing_staged (salt_of c.session.settings);
    line = 0;
  },
  ok_text,
)

-- ---- words for transactions

abbrev pub show : Conversation → TxWord → Step
show c word = option_map (λ t. (c, show_text t)) (tx_meant c.session.stage word)

abbrev pub check : Conversation → TxWord → Step
check c word = option_map (λ t. ask c (Check t)) (tx_meant c.session.stage word)

-- without block bytes in the line, the setting applies
abbrev pub block_at : Settings → NewBlock → List Transaction → ResolvedBlock
block_at g b txs = record { tick = b.tick; block_bytes = unwrap_or b.block_bytes (block_bytes_of g); txs = txs }

-- the pool adopts the ledger state after the block, if it has one
abbrev pub adopt : Conversation → ResolvedBlock → Conversation × List ℕ
adopt c b = with_response c (adopt_block c.session.names (served_in c) b)

-- the same for the block of all staged transactions, which then aren't staged any more
abbrev pub adopt_staged : Conversation → ResolvedBlock → Conversation × List ℕ
adopt_staged c b =
    adopt (with_staged c (if is_adopted (served_in c) b then staged.without c.staged Txs else c.staged)) b

-- the transactions of a block's words; without words, those that are staged
abbrev pub block_txs : Staged → Stage ServedPool → List TxWord → Option (List Transaction)
block_txs s stage [] = Some s.txs
block_txs s stage (word ∷ words) = put_meant stage [] (word ∷ words)

abbrev pub adopt_by : Conversation → List TxWord → ResolvedBlock → Conversation × List ℕ
adopt_by c [] b = adopt_staged c b
adopt_by c (word ∷ words) b = adopt c b

abbrev pub extend : Conversation → NewBlock → Step
extend c b = option_map (λ txs. adopt_by c b.txs (block_at c.session.settings b txs)) (block_txs c.staged c.session.stage b.txs)

-- ---- what is staged

-- what is staged then, and the answer
abbrev pub with_staging : Conversation → Staged × List ℕ → Conversation × List ℕ
with_staging c r = (with_staged c r.0, r.1)

abbrev pub stage_bytes : Conversation → Result Transaction TxFault → Conversation × List ℕ
stage_bytes c found = with_staging c (add_read c.staged found)

abbrev pub stage_held : Conversation → List TxWord → Step
stage_held c words = option_map (λ txs. with_staging c (add_txs c.staged txs)) (put_meant c.session.stage [] words)

abbrev pub stage_output : Conversation → OutRef → Output → Step
stage_output c r o = option_map (with_staging c) (add_output c.staged r o)

abbrev pub unstage : Conversation → Conversation × List ℕ
unstage c = (with_staged c (nothing_staged (salt_of c.session.settings)), ok_text)

-- the pool adopts the ledger state that has the staged outputs, which then aren't staged any more; it never refuses one
abbrev pub sync_staged : Conversation → ℕ → Option ℕ → Conversation × List ℕ
sync_staged c tick block_bytes =
    ask
    (with_staged c (staged.without c.staged (Outputs (no_outputs (salt_of c.session.settings)))))
    (Plain (requests.Change (commands.Sync (staged_ledger c.session.settings c.staged tick block_bytes))))

-- ---- lines

-- a line that asks nothing of the pool is done
abbrev pub ask_if : Conversation → Option requests.Request → Conversation × List ℕ
ask_if c None = (c, ok_text)
ask_if c (Some request) = ask c (Plain request)

-- a scenario's line
abbrev pub does : Conversation → Line → Step
does c line = option_map (λ r. ask_if (with_session c r.0) r.1) (sessions.take c.session line)

-- an output with its reference; allowed before the first request
abbrev pub hold : Conversation → OutRef → Output → Step
hold c r o = option_map (λ s. (with_session c s, ok_text)) (hold_at c.session r o c.session.stage)

abbrev pub take : Conversation → Ask → Step
take c (Does line) = does c line
take c (Reads name bytes) = Some (read c name (transaction_of bytes))
take c (Submits name t) = Some (submit c name t)
take c (SubmitsBytes bytes) = Some (give c (transaction_of bytes))
take c (Shows word) = show c word
take c (Checks word) = check c word
take c Counts = Some (ask c Count)
take c (Holds r o) = hold c r o
take c (Extends block) = extend c block
take c (Stages bytes) = Some (stage_bytes c (transaction_of bytes))
take c (StagesHeld words) = stage_held c words
take c (StagesOutput r o) = stage_output c r o
take c Unstages = Some (unstage c)
take c (Syncs tick block_bytes) = Some (sync_staged c tick block_bytes)
take c (Returns count) = Some (ask c (Return count))
take c (Forgets names) = Some (forget c names)
take c (ReportsById by_id) = Some (report_by_id c by_id)
take c Resets = reset_at c c.session.stage

-- the state and the answer after a line, unless it is bad
unfoldable pub line_step : Conversation → List ℕ → Step
line_step c line = option_and_then (take c) (ask_of c.session.names c.most_names line)
