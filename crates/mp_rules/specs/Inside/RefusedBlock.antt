-- Why one transaction of a block is refused.
use Rattle.std.specs.Prelude.{◌≡◌, ℕ, Some}
use Rattle.std.specs.FinMap.{get}
use Rattle.mp_tx.specs.Transaction.{Transaction}
use Rattle.mp_tx.specs.Ledger.{LedgerState, HasBlockBytes}
use Rattle.mp_rules.specs.declared.invalid.Invalid as rule
use Rattle.mp_rules.specs.declared.invalid.Invalid.TheVariants as rules
use Rattle.mp_rules.specs.Verifier.{Accepts}
use Rattle.mp_rules.specs.FirstFault.{first_fault}
use Rattle.mp_rules.specs.declared.block.refusal.BlockRefusal.{BlockRefusal}
use Rattle.mp_rules.specs.declared.block.refusal.BlockRefusal.TheVariants.{NoMemory, BadBlockBytes, Invalid}

-- a rule that fails, as a refusal; an allocation failure isn't one
abbrev pub refusal_at : ℕ → rule.Invalid → BlockRefusal
refusal_at place rules.NoMemory = NoMemory
refusal_at place fault = Invalid place fault

-- the refusal has the index and the first rule that fails; an allocation failure is always possible
abbrev pub IsInvalidAt : Accepts → LedgerState → Transaction → ℕ → BlockRefusal → Type 0
IsInvalidAt accepts l t place NoMemory = Unit {0}
IsInvalidAt accepts l t place BadBlockBytes = ⊥
IsInvalidAt accepts l t place (Invalid at fault) = (at ≡ place) × (first_fault accepts (get l.utxo) l.tick t ≡ Some fault)

-- if everything that is spent is there and everything that is made is new, only the block bytes can be bad; an
-- allocation failure is always possible
abbrev pub HasBadBytes : ℕ → BlockRefusal → Type 0
HasBadBytes block_bytes NoMemory = Unit {0}
HasBadBytes block_bytes BadBlockBytes = ¬ HasBlockBytes block_bytes
HasBadBytes block_bytes (Invalid at fault) = ⊥
