-- One entry of a history.
use Rattle.std.specs.Prelude.{ℕ}
use Rattle.mp_seqpool.specs.declared.command.Reply.{Reply}
use Rattle.mp_seqpool.specs.Command.{Command}

pub record Entry : Type 0 where
  -- who asked
  pub caller : ℕ
  -- what was asked
  pub command : Command
  -- what was replied
  pub reply : Reply
