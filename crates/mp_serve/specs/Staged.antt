-- What is staged for the next ledger state.
use Rattle.std.specs.Prelude.{ℕ, List, [], ◌∷◌, ◌++◌, length, Option, option_map, unwrap_or, Result, Ok, Err}
use Rattle.mp_tx.specs.declared.reference.OutRef.{OutRef}
use Rattle.mp_tx.specs.declared.output.Output.{Output}
use Rattle.mp_tx.specs.declared.fault.TxFault.{TxFault}
use Rattle.mp_tx.specs.Transaction.{Transaction}
use Rattle.mp_tx.specs.Ledger.{LedgerState, ledger_of}
use Rattle.mp_rules.specs.Block.{at_tick}
use Rattle.mp_session.specs.declared.settings.Settings.{Settings}
use Rattle.mp_session.specs.Settings.{block_bytes_of}
use Rattle.mp_session.specs.Beginning.{put_in}
use Rattle.mp_serve.specs.declared.used.Used.{Used}
use Rattle.mp_serve.specs.declared.used.Used.TheVariants.{Nothing, Txs, Outputs}
use Rattle.mp_serve.specs.Refused.{one_more}
use Rattle.mp_serve.specs.Texts.{bytes_text, staged_text}

pub record Staged : Type 0 where
  -- the transactions of the next block, in order
  pub txs : List Transaction
  -- how many outputs the next ledger state has
  pub outputs : ℕ
  -- all of them; the tick and the block bytes have no meaning yet
  pub ledger : LedgerState

abbrev pub no_outputs : ℕ → LedgerState
no_outputs salt = ledger_of salt 0 500000 []

abbrev pub nothing_staged : ℕ → Staged
nothing_staged salt = record { txs = []; outputs = 0; ledger = no_outputs salt }

-- what is staged then, and the line that says how much
abbrev pub add_txs : Staged → List Transaction → Staged × List ℕ
add_txs s txs = (record s { txs = s.txs ++ txs }, staged_text (length (s.txs ++ txs)))

-- the same for the transaction that was read, if there is one
abbrev pub add_read : Staged → Result Transaction TxFault → Staged × List ℕ
add_read s (Ok t) = add_txs s (t ∷ [])
add_read s (Err fault) = (s, bytes_text (Err fault))

abbrev pub with_ledger : Staged → LedgerState → Staged × List ℕ
with_ledger s l = (record s { outputs = one_more s.outputs; ledger = l }, staged_text (one_more s.outputs))

-- one more output, unless its reference is staged already
abbrev pub add_output : Staged → OutRef → Output → Option (Staged × List ℕ)
add_output s r o = option_map (with_ledger s) (put_in s.ledger r o)

-- the ledger state that has the staged outputs; without block bytes in the line, the setting applies
abbrev pub staged_ledger : Settings → Staged → ℕ → Option ℕ → LedgerState
staged_ledger g s tick block_bytes = at_tick s.ledger tick (unwrap_or block_bytes (block_bytes_of g))

-- what is staged after these were adopted
abbrev pub without : Staged → Used → Staged
without s Nothing = s
without s Txs = record s { txs = [] }
without s (Outputs none) = record s { outputs = 0; ledger = none }
