-- Why outputs make no ledger state.
use Rattle.std.specs.Prelude.{ℕ, List}
use Rattle.mp_tx.specs.declared.ledger_fault.LedgerFault.{LedgerFault}
use Rattle.mp_tx.specs.declared.ledger_fault.LedgerFault.TheVariants.{NoMemory, Repeated, BadBlockBytes}
use Rattle.mp_tx.specs.declared.reference.OutRef.{OutRef}
use Rattle.mp_tx.specs.Ledger.{HasBlockBytes, IsFirstRepeat}

-- block bytes are checked first; an allocation failure is always possible
abbrev pub HasFault : LedgerFault → ℕ → List OutRef → Type 0
HasFault NoMemory block_bytes rs = Unit {0}
HasFault (Repeated place) block_bytes rs = HasBlockBytes block_bytes × IsFirstRepeat rs place
HasFault BadBlockBytes block_bytes rs = ¬ HasBlockBytes block_bytes

abbrev pub number : LedgerFault → ℕ
number NoMemory = 1
number (Repeated place) = 2
number BadBlockBytes = 3
