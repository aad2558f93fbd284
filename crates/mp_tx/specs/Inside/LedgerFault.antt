-- Why outputs make no map.
use Rattle.std.specs.Prelude.{List}
use Rattle.mp_tx.specs.declared.ledger_fault.LedgerFault.{LedgerFault}
use Rattle.mp_tx.specs.declared.ledger_fault.LedgerFault.TheVariants.{NoMemory, Repeated, BadBlockBytes}
use Rattle.mp_tx.specs.declared.reference.OutRef.{OutRef}
use Rattle.mp_tx.specs.Ledger.{IsFirstRepeat}

-- an allocation failure is always possible; a map ignores block bytes
abbrev pub HasRepeat : List OutRef → LedgerFault → Type 0
HasRepeat rs NoMemory = Unit {0}
HasRepeat rs (Repeated place) = IsFirstRepeat rs place
HasRepeat rs BadBlockBytes = ⊥
