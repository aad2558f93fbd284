-- How contracts see the answer to a change.
use Rattle.std.specs.Prelude.{◌≡◌, Result, Ok, Err}
use Rattle.mp_seqpool.specs.declared.refusal.Refusal.{Refusal}
use Rattle.mp_seqpool.specs.declared.command.Reply.{Reply}
use Rattle.mp_mempool.specs.declared.read.receipt.Receipt.{Receipt}
use Rattle.mp_clients.specs.declared.stop.ClientStop.{ClientStop}
use Rattle.mp_clients.specs.declared.stop.ClientStop.TheVariants.{NoMemory, Untold}

abbrev pub answer_in : Result Receipt Refusal → Result Reply Refusal
answer_in (Ok receipt) = Ok receipt.entry.reply
answer_in (Err refusal) = Err refusal

-- why there is no line of the answer
abbrev pub IsUnanswered : Result Reply Refusal → ClientStop → Type 0
IsUnanswered (Ok reply) stop = stop ≡ Untold
IsUnanswered (Err refusal) stop = stop ≡ NoMemory

-- no change was made
abbrev pub IsBefore : ClientStop → Type 0
IsBefore Untold = ⊥
IsBefore stop = Unit {0}

-- the first if the change was made, and else the second
abbrev pub if_made : {X : Type 0} → Result Reply Refusal → X → X → X
if_made (Ok reply) x y = x
if_made (Err refusal) x y = y
