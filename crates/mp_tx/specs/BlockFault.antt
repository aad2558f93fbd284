-- Why a block can't be applied to a ledger state.
use Rattle.std.specs.Prelude.{ℕ, List}
use Rattle.mp_tx.specs.declared.block_fault.BlockFault.{BlockFault}
use Rattle.mp_tx.specs.declared.block_fault.BlockFault.TheVariants.{NoMemory, BadBlockBytes, Missing, Repeated}
use Rattle.mp_tx.specs.declared.reference.OutRef.{OutRef}
use Rattle.mp_tx.specs.declared.output.Output.{Output}
use Rattle.mp_tx.specs.Ledger.{LedgerState, HasBlockBytes, without, AreThere, IsFirstMissing, IsFirstTaken}

-- the checks are made in this order: block bytes, what is spent, what is made; an allocation failure is always possible
abbrev pub HasBlockFault : BlockFault → LedgerState → ℕ → List OutRef → List (OutRef × Output) → Type 0
HasBlockFault NoMemory l block_bytes spent made = Unit {0}
HasBlockFault BadBlockBytes l block_bytes spent made = ¬ HasBlockBytes block_bytes
HasBlockFault (Missing place) l block_bytes spent made = HasBlockBytes block_bytes × IsFirstMissing l.utxo spent place
HasBlockFault (Repeated place) l block_bytes spent made =
    HasBlockBytes block_bytes × AreThere l.utxo spent × IsFirstTaken (without l.utxo spent) made place
