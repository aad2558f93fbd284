-- The refusals that come before the rules.
use Rattle.std.specs.Prelude.{ℕ, ◌-◌, ◌^◌, nat_le, nat_lt, Option, None, Some, if◌then◌else◌}
use Rattle.mp_tx.specs.Transaction.{Transaction}
use Rattle.mp_tx.specs.Spelling.{id_of, size_of}
use Rattle.mp_seqpool.specs.declared.refusal.Refusal.{Refusal}
use Rattle.mp_seqpool.specs.declared.refusal.Refusal.TheVariants as refusals
use Rattle.mp_seqpool.specs.Pool.{Pool}
use Rattle.mp_seqpool.specs.SlowPool.{is_at_limit, free_bytes, ticket_of}

abbrev pub new_misplaced : Pool → Transaction → Option ℕ → Option Refusal
new_misplaced p t None =
    if nat_lt (free_bytes p) (size_of t) then Some (refusals.Full (size_of t) (free_bytes p)) else None
new_misplaced p t (Some ticket) = Some (refusals.AlreadyInPool ticket)

-- why the pool has no place for the transaction, whatever the rules say
unfoldable pub misplaced : Pool → Transaction → Option Refusal
misplaced p t =
    if is_at_limit p then Some refusals.HistoryFull
    else if nat_le (2 ^ 64 - 1) p.last then Some refusals.TicketsSpent
    else new_misplaced p t (ticket_of (id_of t) p.items)
