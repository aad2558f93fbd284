-- Why a block is refused.
use Rattle.std.specs.Prelude.{◌≡◌, ℕ, List, Err}
use Rattle.mp_tx.specs.Transaction.{Transaction}
use Rattle.mp_tx.specs.Ledger.{LedgerState, HasBlockBytes}
use Rattle.mp_rules.specs.Verifier.{Accepts}
use Rattle.mp_rules.specs.declared.block.refusal.BlockRefusal.{BlockRefusal}
use Rattle.mp_rules.specs.declared.block.refusal.BlockRefusal.TheVariants.{NoMemory, BadBlockBytes, Invalid}
use Rattle.mp_rules.specs.Block.{apply_block}

-- an allocation failure is always possible
abbrev pub IsBlockRefusal : Accepts → LedgerState → ℕ → ℕ → List Transaction → BlockRefusal → Type 0
IsBlockRefusal accepts l tick block_bytes ts NoMemory = Unit {0}
IsBlockRefusal accepts l tick block_bytes ts BadBlockBytes = ¬ HasBlockBytes block_bytes
IsBlockRefusal accepts l tick block_bytes ts (Invalid place fault) =
    HasBlockBytes block_bytes × (apply_block accepts l tick block_bytes ts ≡ Err (place, fault))
