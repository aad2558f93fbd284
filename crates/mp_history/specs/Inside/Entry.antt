-- An entry without the share of its command's transaction.
use Rattle.mp_seqpool.specs.Inside.Command.{command_of}
use Rattle.mp_history.specs.declared.entry.Entry.TheInside.{Inside}
use Rattle.mp_history.specs.Entry.{Entry}

abbrev pub entry_of : Inside → Entry
entry_of e = record { caller = e.caller; command = command_of e.command; reply = e.reply }
