-- The outputs that a pool opens with.
use Rattle.std.specs.Prelude.{ℕ, ◌+◌, ◌^◌, nat_lt, [], ◌∷◌, Option, None, Some, is_none, option_map, if◌then◌else◌}
use Rattle.std.specs.FinMap.{get}
use Rattle.mp_tx.specs.declared.reference.OutRef.{OutRef}
use Rattle.mp_tx.specs.declared.output.Output.{Output}
use Rattle.mp_tx.specs.Ledger.{LedgerState, ledger_of, ledger_after}
use Rattle.mp_rules.specs.Block.{at_tick}
use Rattle.mp_names.specs.declared.payment.Payment.{Payment}
use Rattle.mp_names.specs.Payments.{output_of}
use Rattle.mp_names.specs.References.{opening_ref}
use Rattle.mp_session.specs.declared.settings.Settings.{Settings}
use Rattle.mp_session.specs.Settings.{block_bytes_of, tick_of}

pub record Beginning : Type 0 where
  -- how many outputs have names
  pub outs : ℕ
  -- all of them; the tick and the block bytes have no meaning yet
  pub ledger : LedgerState

-- no outputs
abbrev pub empty_beginning : ℕ → Beginning
empty_beginning salt = record { outs = 0; ledger = ledger_of salt 0 500000 [] }

-- one more output, unless its reference is taken
abbrev pub put_in : LedgerState → OutRef → Output → Option LedgerState
put_in l r o = if is_none (get l.utxo r) then Some (ledger_after l l.tick l.block_bytes [] ((r, o) ∷ [])) else None

-- one more output under its own reference
abbrev pub with_utxo : Beginning → OutRef → Output → Option Beginning
with_utxo b r o = option_map (λ l. record b { ledger = l }) (put_in b.ledger r o)

abbrev pub with_next : Beginning → Payment → Option Beginning
with_next b p = option_map (λ l. record { outs = b.outs + 1; ledger = l }) (put_in b.ledger (opening_ref b.outs) (output_of p))

-- one more output under the next reference, at most 65,536 times
abbrev pub with_out : Beginning → Payment → Option Beginning
with_out b p = if nat_lt b.outs (2 ^ 16) then with_next b p else None

-- the ledger state with which the pool opens
abbrev pub opening_ledger : Settings → Beginning → LedgerState
opening_ledger g b = at_tick b.ledger (tick_of g) (block_bytes_of g)
