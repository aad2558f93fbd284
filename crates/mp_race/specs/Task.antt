-- The tasks of a worker.
use Rattle.mp_seqpool.specs.Command.{Command}

pub data Task : Type 0 where
  Change : Command → Task
  -- take a snapshot
  Read : Task
