-- A pool without items.
use Rattle.std.proofs.Common.{◌≡◌, ℕ, List, [], ap, ◌∙◌}
use Rattle.mp_tx.specs.Ledger.{LedgerState}
use Rattle.mp_seqpool.specs.ValidatedTx.{ValidatedTx, ticketed}
use Rattle.mp_seqpool.specs.Pool.{Pool}
use Rattle.mp_seqpool.specs.SlowPool.{empty_pool}

at : ℕ → ℕ → LedgerState → List (ℕ × ValidatedTx) → Pool
at limit last ledger items = record { ledger = ledger; items = ticketed items; last = last; changes = 0; limit = limit; opening_ticket = last }

pub opens : (limit last : ℕ) (ledger l : LedgerState) (items : List (ℕ × ValidatedTx)) → l ≡ ledger → items ≡ []
    → record { ledger = l; items = ticketed items; last = last; changes = 0; limit = limit; opening_ticket = last } ≡ empty_pool limit last ledger
unfolding at
opens limit last ledger l items is none = ap (λ k. at limit last k items) is ∙ ap (at limit last ledger) none
