-- The ledger states of lines.
use Rattle.std.specs.Prelude.{unwrap_or}
use Rattle.mp_tx.specs.Ledger.{LedgerState, ledger_of}
use Rattle.mp_names.specs.declared.new_ledger.NewLedger.{NewLedger}
use Rattle.mp_session.specs.declared.settings.Settings.{Settings}
use Rattle.mp_session.specs.Settings.{block_bytes_of, salt_of}

-- if the line has no block bytes, those of the settings
abbrev pub ledger_at : Settings → NewLedger → LedgerState
ledger_at g l = ledger_of (salt_of g) l.tick (unwrap_or l.block_bytes (block_bytes_of g)) l.outputs
