-- Requests to the pool, and its responses.
use Rattle.std.specs.Prelude.{ℕ, ◌-◌, Bool, nat_eq, List, [], ◌∷◌, ◌++◌, length, take, Option, None, Some, Result, Ok, Err, is_ok, if◌then◌else◌}
use Rattle.std.specs.Cmp.Lexicographic.{pointwise}
use Rattle.std.specs.Result.{result_err}
use Rattle.mp_tx.specs.Transaction.{Transaction}
use Rattle.mp_tx.specs.Spelling.{id_of}
use Rattle.mp_tx.specs.Ledger.{LedgerState}
use Rattle.mp_rules.specs.declared.invalid.Invalid.{Invalid}
use Rattle.mp_rules.specs.Block.{apply_block}
use Rattle.mp_seqpool.specs.Keep.{keep}
use Rattle.mp_signatures.specs.Scheme.{accepted_by}
use Rattle.mp_seqpool.specs.declared.refusal.Refusal.{Refusal}
use Rattle.mp_seqpool.specs.declared.command.Reply.{Reply}
use Rattle.mp_seqpool.specs.Command.{Command}
use Rattle.mp_seqpool.specs.Command as commands
use Rattle.mp_seqpool.specs.Config.{renewed}
use Rattle.mp_seqpool.specs.Pool.{Pool}
use Rattle.mp_seqpool.specs.SlowPool.{is_at_limit, answer, next}
use Rattle.mp_names.specs.Names.{Names, name_of, with_reported}
use Rattle.mp_lines.specs.declared.query.Query.{Query}
use Rattle.mp_answers.specs.AnswerText.{answer_text, given_text}
use Rattle.mp_answers.specs.QueryText.{query_text, for_text, cursor_after}
use Rattle.mp_session.specs.Request as sessions
use Rattle.mp_serve.specs.ServedPool.{ServedPool, latest, state_back}
use Rattle.mp_serve.specs.declared.refused.Counts.{Counts}
use Rattle.mp_serve.specs.Refused.{one_more, counted_if}
use Rattle.mp_serve.specs.Texts.{stats_text, block_refused_text, back_refused_text}

-- a block's transactions, and the tick and block bytes after it
pub record ResolvedBlock : Type 0 where
  pub tick : ℕ
  pub block_bytes : ℕ
  pub txs : List Transaction

pub data Request : Type 0 where
  -- what a line of a scenario asks
  Plain : sessions.Request → Request
  -- adopt the ledger state this many steps ago
  Return : ℕ → Request
  -- what the submit of the transaction would answer
  Check : Transaction → Request
  -- submit the transaction, and answer with its id
  Give : Transaction → Request
  -- the pool's numbers
  Count : Request

-- the pool afterwards, and the line that answers
abbrev pub Response : Type 0
Response = ServedPool × List ℕ

-- a pool at its limit of changes counts them from 0 again
abbrev pub counted_anew : Pool → Pool
counted_anew p = if is_at_limit p then renewed p.limit p else p

-- the pool after a command
abbrev pub obeyed : ServedPool → Command → Pool
obeyed p c = counted_anew (next (accepted_by p.signatures) p.pool c)

-- the answer to a command
abbrev pub answer_to : ServedPool → Command → Result Reply Refusal
answer_to p c = answer (accepted_by p.signatures) p.pool c

-- the transaction is reported under the name from then on
abbrev pub reported_as : Names → List ℕ → Transaction → Names
reported_as names name t = if pointwise nat_eq name (name_of (id_of t) names) then names else with_reported names name

-- the same if it is accepted
abbrev pub reported_if : Names → List ℕ → Transaction → Result Reply Refusal → Names
reported_if names name t (Ok reply) = reported_as names name t
reported_if names name t (Err refusal) = names

abbrev pub answered : Names → ServedPool → Command → List ℕ
answered names p c = answer_text names (answer_to p c)

-- a refusal is counted
abbrev pub after_command : ServedPool → Command → ServedPool
after_command p c = record p { pool = obeyed p c; refused = counted_if p.refused (result_err (answer_to p c)) }

-- a command that keeps the ledger state
abbrev pub do_command : Names → ServedPool → Command → Response
do_command names p c = (after_command p c, answered names p c)

-- the pool is synced with the ledger state; the former ones are given
abbrev pub adopt : Names → ServedPool → LedgerState → List LedgerState → Response
adopt names p l former = (record p { pool = obeyed p (commands.Sync l); former = former }, answered names p (commands.Sync l))

-- a new ledger state
abbrev pub go_on : Names → ServedPool → LedgerState → Response
go_on names p l = adopt names p l (latest (p.former ++ p.pool.ledger ∷ []))

abbrev pub one_adopt_more : Counts → Counts
one_adopt_more c = record c { adopts = one_more c.adopts }

abbrev pub one_back_more : Counts → Counts
one_back_more c = record c { backs = one_more c.backs }

-- the ledger state after the block; or one of its transactions isn't valid after those before it, which is counted
abbrev pub extend : Names → ServedPool → List Transaction → Result LedgerState (ℕ × Invalid) → Response
extend names p txs (Ok l) = go_on names p l
extend names p txs (Err refused) = (record p { refused = one_adopt_more p.refused }, block_refused_text names txs refused.0 refused.1)

-- the ledger state after the block, or the first of its transactions that isn't valid after those before it
abbrev pub after_block : ServedPool → ResolvedBlock → Result LedgerState (ℕ × Invalid)
after_block p b = apply_block (accepted_by p.signatures) p.pool.ledger b.tick b.block_bytes b.txs

abbrev pub adopt_block : Names → ServedPool → ResolvedBlock → Response
adopt_block names p b = extend names p b.txs (after_block p b)

abbrev pub is_adopted : ServedPool → ResolvedBlock → Bool
is_adopted p b = is_ok (after_block p b)

-- a former ledger state, with those before it; or it isn't kept, which is counted
abbrev pub go_back : Names → ServedPool → ℕ → Option LedgerState → Response
go_back names p count None = (record p { refused = one_back_more p.refused }, back_refused_text (length p.former))
go_back names p count (Some l) = adopt names p l (take (length p.former - count) p.former)

abbrev pub change : Names → ServedPool → Command → Response
change names p (commands.Submit t) = do_command names p (commands.Submit t)
change names p (commands.Remove ids) = do_command names p (commands.Remove ids)
change names p (commands.Sync l) = go_on names p l

-- only an offer moves the cursor
abbrev pub read : Names → ServedPool → Query → Response
read names p query = (record p { cursor = cursor_after p.cursor p.pool query }, query_text names p.cursor p.pool query)

-- the submit of a transaction without a name
abbrev pub give : Names → ServedPool → Transaction → Response
give names p t =
    (after_command p (commands.Submit t), given_text names (answer_to p (commands.Submit t)) (id_of t))

abbrev pub respond_plainly : Names → ServedPool → sessions.Request → Response
respond_plainly names p (sessions.Change c) = change names p c
respond_plainly names p (sessions.Try l) = (p, for_text names (keep (accepted_by p.signatures) l p.pool.items))
respond_plainly names p (sessions.Read query) = read names p query

abbrev pub respond : Names → ServedPool → Request → Response
respond names p (Plain request) = respond_plainly names p request
respond names p (Return count) = go_back names p count (state_back p.former p.pool.ledger count)
respond names p (Check t) = (p, answered names p (commands.Submit t))
respond names p (Give t) = give names p t
respond names p Count = (p, stats_text p.pool p.refused)
