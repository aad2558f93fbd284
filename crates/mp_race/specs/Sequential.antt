-- What a pool of one thread makes of a race's tasks.
use Rattle.std.specs.Prelude.{List, [], ◌∷◌, ◌++◌, Result, Ok, Err}
use Rattle.mp_rules.specs.Verifier.{Accepts}
use Rattle.mp_seqpool.specs.declared.refusal.Refusal.{Refusal}
use Rattle.mp_seqpool.specs.declared.command.Reply.{Reply}
use Rattle.mp_seqpool.specs.Command.{Command}
use Rattle.mp_seqpool.specs.Pool.{Pool}
use Rattle.mp_seqpool.specs.SlowPool.{answer, next}
use Rattle.mp_history.specs.Entry.{Entry}
use Rattle.mp_race.specs.Task.{Task, Change, Read}

-- the entry of a command of the first worker, unless it is refused
abbrev pub entry_of : Command → Result Reply Refusal → List Entry
entry_of c (Ok reply) = record { caller = 0; command = c; reply = reply } ∷ []
entry_of c (Err refusal) = []

-- the entries of the changes that the pool accepts, one after the other
abbrev pub entries_from : Accepts → Pool → List Task → List Entry
entries_from accepts p [] = []
entries_from accepts p (Read ∷ ts) = entries_from accepts p ts
entries_from accepts p (Change c ∷ ts) = entry_of c (answer accepts p c) ++ entries_from accepts (next accepts p c) ts
