-- A block's transactions on a ledger state.
use Rattle.std.specs.Prelude.{ℕ, ◌+◌, List, [], ◌∷◌, map, Option, None, Some, Result, Ok, Err}
use Rattle.std.specs.List.{enumerate_from}
use Rattle.std.specs.FinMap.{get}
use Rattle.mp_tx.specs.declared.reference.OutRef.{OutRef}
use Rattle.mp_tx.specs.declared.output.Output.{Output}
use Rattle.mp_tx.specs.Transaction.{Transaction, spent_refs}
use Rattle.mp_tx.specs.Ledger.{LedgerState, ledger_after}
use Rattle.mp_utxo.specs.Apply.{own_ref}
use Rattle.mp_rules.specs.declared.invalid.Invalid.{Invalid}
use Rattle.mp_rules.specs.Verifier.{Accepts}
use Rattle.mp_rules.specs.FirstFault.{first_fault}

-- these outputs of the transaction, from its output k on, with their references
abbrev pub made_from : Transaction → ℕ → List Output → List (OutRef × Output)
made_from t k outputs = map (λ p. (own_ref t p.0, p.1)) (enumerate_from k outputs)

-- a transaction's outputs with their references: output k at its id and k, in order
abbrev pub made_by : Transaction → List (OutRef × Output)
made_by t = made_from t 0 t.outputs

-- the ledger state after a transaction; its tick and its block bytes stay
abbrev pub apply_tx : LedgerState → Transaction → LedgerState
apply_tx l t = ledger_after l l.tick l.block_bytes (spent_refs t.inputs) (made_by t)

-- the fault of the transaction at the index, or else the result of those after it
abbrev pub fault_or : ℕ → Option Invalid → Result LedgerState (ℕ × Invalid) → Result LedgerState (ℕ × Invalid)
fault_or place None rest = rest
fault_or place (Some fault) rest = Err (place, fault)

-- the ledger state after all of them, or the index (counted from n) and the fault of the first that isn't valid after
-- those before it
abbrev pub apply_from : Accepts → ℕ → LedgerState → List Transaction → Result LedgerState (ℕ × Invalid)
apply_from accepts n l [] = Ok l
apply_from accepts n l (t ∷ ts) =
    fault_or n (first_fault accepts (get l.utxo) l.tick t) (apply_from accepts (n + 1) (apply_tx l t) ts)

-- the same outputs at another tick, with other block bytes
abbrev pub at_tick : LedgerState → ℕ → ℕ → LedgerState
at_tick l tick block_bytes = record l { tick = tick; block_bytes = block_bytes }

-- the ledger state after a block of these transactions, at the tick; indices count from 0
unfoldable pub apply_block : Accepts → LedgerState → ℕ → ℕ → List Transaction → Result LedgerState (ℕ × Invalid)
apply_block accepts l tick block_bytes ts = apply_from accepts 0 (at_tick l tick block_bytes) ts
