-- What a line asks of the pool.
use Rattle.mp_tx.specs.Ledger.{LedgerState}
use Rattle.mp_seqpool.specs.Command.{Command}
use Rattle.mp_lines.specs.declared.query.Query.{Query}

pub data Request : Type 0 where
  -- make this change
  Change : Command → Request
  -- which transactions would stay on this ledger state
  Try : LedgerState → Request
  -- answer the query
  Read : Query → Request
