-- Why a block can't be applied to a map of outputs. The map ignores block bytes. An allocation failure is always
-- possible.
use Rattle.std.specs.Prelude.{List}
use Rattle.mp_tx.specs.declared.block_fault.BlockFault.{BlockFault}
use Rattle.mp_tx.specs.declared.block_fault.BlockFault.TheVariants.{NoMemory, BadBlockBytes, Missing, Repeated}
use Rattle.mp_tx.specs.declared.reference.OutRef.{OutRef}
use Rattle.mp_tx.specs.declared.output.Output.{Output}
use Rattle.mp_tx.specs.Ledger.{Utxo, without, AreThere, IsFirstMissing, IsFirstTaken}

-- for what is spent
abbrev pub IsOfSpent : Utxo → List OutRef → BlockFault → Type 0
IsOfSpent utxo spent NoMemory = Unit {0}
IsOfSpent utxo spent BadBlockBytes = ⊥
IsOfSpent utxo spent (Missing place) = IsFirstMissing utxo spent place
IsOfSpent utxo spent (Repeated place) = ⊥

-- for what is made
abbrev pub IsOfMade : Utxo → List (OutRef × Output) → BlockFault → Type 0
IsOfMade utxo made NoMemory = Unit {0}
IsOfMade utxo made BadBlockBytes = ⊥
IsOfMade utxo made (Missing place) = ⊥
IsOfMade utxo made (Repeated place) = IsFirstTaken utxo made place

-- for what is spent, and then for what is made
abbrev pub IsOfBoth : Utxo → List OutRef → List (OutRef × Output) → BlockFault → Type 0
IsOfBoth utxo spent made NoMemory = Unit {0}
IsOfBoth utxo spent made BadBlockBytes = ⊥
IsOfBoth utxo spent made (Missing place) = IsFirstMissing utxo spent place
IsOfBoth utxo spent made (Repeated place) = AreThere utxo spent × IsFirstTaken (without utxo spent) made place
