-- The refusals for the rules.
use Rattle.std.specs.Prelude.{◌≡◌, Some}
use Rattle.mp_tx.specs.Transaction.{Transaction}
use Rattle.mp_rules.specs.declared.invalid.Invalid.{Invalid}
use Rattle.mp_rules.specs.declared.invalid.Invalid.TheVariants as rule
use Rattle.mp_rules.specs.Verifier.{Accepts}
use Rattle.mp_rules.specs.FirstFault.{first_fault}
use Rattle.mp_seqpool.specs.declared.refusal.Refusal.{Refusal}
use Rattle.mp_seqpool.specs.declared.refusal.Refusal.TheVariants as refusals
use Rattle.mp_seqpool.specs.Pool.{Pool}
use Rattle.mp_seqpool.specs.SlowPool.{unspent}

-- a broken rule as a refusal; an allocation failure isn't one
abbrev pub refusal_for : Invalid → Refusal
refusal_for rule.NoMemory = refusals.NoMemory
refusal_for fault = refusals.Invalid fault

-- the refusal has the first rule that fails; an allocation failure is always possible
abbrev pub IsBrokenRule : Accepts → Pool → Transaction → Refusal → Type 0
IsBrokenRule accepts p t refusals.NoMemory = Unit {0}
IsBrokenRule accepts p t (refusals.Invalid fault) = first_fault accepts (unspent p) p.ledger.tick t ≡ Some fault
IsBrokenRule accepts p t refusal = ⊥
