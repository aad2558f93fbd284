-- What a beginning stores: outputs that aren't in the ledger state yet, and those that are.
use Rattle.std.specs.Prelude.{ℕ, ◌<◌, List, [], ◌∷◌}
use Rattle.mp_tx.specs.declared.reference.OutRef.{OutRef}
use Rattle.mp_tx.specs.declared.output.Output.{Output}
use Rattle.mp_tx.specs.Ledger.{LedgerState, ledger_after, AreFree}
use Rattle.mp_session.specs.declared.beginning.Beginning.TheInside.{Inside}
use Rattle.mp_session.specs.Beginning.{Beginning}

-- the ledger state with these outputs too
abbrev pub with_pending : LedgerState → List (OutRef × Output) → LedgerState
with_pending l pending = ledger_after l l.tick l.block_bytes [] pending

abbrev pub beginning_of : Inside → Beginning
beginning_of b = record { outs = b.outs; ledger = with_pending b.ledger b.pending.items }

-- the references have smaller indices
abbrev pub AreBelow : ℕ → List (OutRef × Output) → Type 0
AreBelow n [] = Unit {0}
AreBelow n (e ∷ es) = (e.0.index < n) × AreBelow n es

-- The pending outputs have names, and their references are free.
pub record IsPending (b : Inside) : Type 0 where
  pub named : AreBelow b.outs b.pending.items
  pub free : AreFree b.ledger.utxo b.pending.items
