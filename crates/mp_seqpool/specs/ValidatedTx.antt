-- What a pool stores for a ticket.
use Rattle.std.specs.Prelude.{ℕ, List, map}
use Rattle.mp_tx.specs.Transaction.{Transaction}
use Rattle.mp_rules.specs.Resolved.{Resolved}
use Rattle.mp_rules.specs.Verifier.{Accepts}
use Rattle.mp_rules.specs.Checked.{IsSigned, WasValid}

pub record ValidatedTx : Type 0 where
  pub tx : Transaction
  -- the outputs that it named when it was found valid
  pub resolved : Resolved

-- what needn't be checked again: its signatures, and nearly all rules while it names these outputs
pub record IsVouched (accepts : Accepts) (v : ValidatedTx) : Type 0 where
  pub signed : IsSigned accepts v.tx
  pub valid : WasValid v.tx v.resolved

-- each ticket with its transaction
abbrev pub ticketed : List (ℕ × ValidatedTx) → List (ℕ × Transaction)
ticketed items = map (λ e. (e.0, e.1.tx)) items
