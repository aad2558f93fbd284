-- A command without the shares of its parts.
use Rattle.std.specs.Prelude.{List, map}
use Rattle.std.specs.Arc.{arc_value}
use Rattle.mp_seqpool.specs.declared.command.Command.{Command}
use Rattle.mp_seqpool.specs.declared.command.Command.TheVariants as commands
use Rattle.mp_seqpool.specs.Command as told

-- the command that contracts see
abbrev pub command_of : Command → told.Command
command_of (commands.Submit tx) = told.Submit (arc_value tx)
command_of (commands.Remove ids) = told.Remove (arc_value ids)
command_of (commands.Sync ledger) = told.Sync ledger

abbrev pub commands_of : List Command → List told.Command
commands_of cs = map command_of cs
