-- The pool that a configuration opens.
use Rattle.std.specs.Prelude.{ℕ}
use Rattle.mp_tx.specs.Ledger.{LedgerState}
use Rattle.mp_seqpool.specs.declared.config.Config.{Config}
use Rattle.mp_seqpool.specs.Pool.{Pool}
use Rattle.mp_seqpool.specs.SlowPool.{empty_pool}

-- the empty pool with the limit and the last ticket of the configuration
abbrev pub fresh_pool : Config → LedgerState → Pool
fresh_pool config ledger = empty_pool config.limit config.last ledger

-- the pool as a new one with the same content: no change has been made, and this is the limit
abbrev pub renewed : ℕ → Pool → Pool
renewed limit p = record p { changes = 0; limit = limit; opening_ticket = p.last }
