-- The lines that a conversation writes in addition to those of scenarios.
use Rattle.std.specs.Prelude.{ℕ, List, [], ◌∷◌, ◌++◌, length, slice_get, codes, Option, None, Some, Result, Ok, Err}
use Rattle.hex.specs.Hex.{encode_lower}
use Rattle.mp_tx.specs.Transaction.{Transaction}
use Rattle.mp_tx.specs.Spelling.{id_of, size_of, spelling}
use Rattle.mp_tx.specs.declared.fault.TxFault.{TxFault}
use Rattle.mp_tx.specs.declared.fault.TxFault.TheVariants as faults
use Rattle.mp_rules.specs.declared.invalid.Invalid.{Invalid}
use Rattle.mp_seqpool.specs.declared.refusal.Refusal.TheVariants as refusals
use Rattle.mp_seqpool.specs.Pool.{Pool}
use Rattle.mp_seqpool.specs.SlowPool.{bytes_held, free_bytes}
use Rattle.mp_names.specs.Names.{Names}
use Rattle.mp_answers.specs.AnswerText.{number_text, tx_name_text, refusal_text}
use Rattle.mp_serve.specs.declared.refused.Counts.{Counts}
use Rattle.mp_serve.specs.Refused.{counts_text}

-- the answer if there is nothing to report
abbrev pub ok_text : List ℕ
ok_text = codes "ok\n"

-- the answer after an allocation failure
abbrev pub no_memory_text : List ℕ
no_memory_text = codes "fault: no memory\n"

-- how the answer to a bad line begins; the reason follows
abbrev pub bad_text : ℕ → List ℕ
bad_text number = codes "bad" ++ number_text number ++ codes ": "

-- the name of a fault in a transaction's bytes
abbrev pub fault_name : TxFault → List ℕ
fault_name faults.NoMemory = codes "memory"
fault_name faults.Truncated = codes "truncated"
fault_name faults.Trailing = codes "trailing"
fault_name faults.BadVersion = codes "version"
fault_name faults.NotRising = codes "order"
fault_name faults.BadBundle = codes "bundle"
fault_name faults.BadScript = codes "script"
fault_name faults.BadData = codes "data"
fault_name faults.BadInterval = codes "interval"
fault_name faults.TooLarge = codes "large"
fault_name faults.ReferenceSpent = codes "spent"
fault_name faults.NoReferences = codes "references"

-- the size and the id
abbrev pub tx_words : Transaction → List ℕ
tx_words t = codes "tx" ++ number_text (size_of t) ++ 32 ∷ encode_lower (id_of t)

-- for bytes that were read, or why they are no transaction
unfoldable pub bytes_text : Result Transaction TxFault → List ℕ
bytes_text (Ok t) = tx_words t ++ 10 ∷ []
bytes_text (Err fault) = (codes "undecodable " ++ fault_name fault) ++ 10 ∷ []

-- the same with the bytes
unfoldable pub show_text : Transaction → List ℕ
show_text t = (tx_words t ++ 32 ∷ encode_lower (spelling t)) ++ 10 ∷ []

-- the number of transactions, their bytes, the free bytes, the last ticket, and the changes since they were last counted from 0
abbrev pub pool_numbers : Pool → List ℕ
pool_numbers p =
    codes "stats" ++ number_text (length p.items) ++ number_text (bytes_held p) ++ number_text (free_bytes p) ++ number_text p.last ++ number_text p.changes

-- then how often each kind of refusal was answered
unfoldable pub stats_text : Pool → Counts → List ℕ
stats_text p refused = (pool_numbers p ++ counts_text refused) ++ 10 ∷ []

-- the name or the id under which the transaction is reported, if there is one
abbrev pub name_if_any : Names → Option Transaction → List ℕ
name_if_any names None = []
name_if_any names (Some t) = tx_name_text names (id_of t)

-- the transaction of the block at this index isn't valid after those before it
unfoldable pub block_refused_text : Names → List Transaction → ℕ → Invalid → List ℕ
block_refused_text names txs place fault =
    (codes "refused adopt " ++ name_if_any names (slice_get txs place) ++ 32 ∷ refusal_text names (refusals.Invalid fault)) ++ 10 ∷ []

-- this many former ledger states are kept, and no more
unfoldable pub back_refused_text : ℕ → List ℕ
back_refused_text kept = (codes "refused back" ++ number_text kept) ++ 10 ∷ []

-- this many transactions or outputs are staged
unfoldable pub staged_text : ℕ → List ℕ
staged_text count = (codes "staged" ++ number_text count) ++ 10 ∷ []

-- this many names were forgotten
unfoldable pub forgotten_text : ℕ → List ℕ
forgotten_text count = (codes "forgotten" ++ number_text count) ++ 10 ∷ []
