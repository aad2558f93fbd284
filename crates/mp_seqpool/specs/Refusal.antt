-- The numbers of refusals.
use Rattle.std.specs.Prelude.{ℕ}
use Rattle.mp_seqpool.specs.declared.refusal.Refusal.{Refusal}
use Rattle.mp_seqpool.specs.declared.refusal.Refusal.TheVariants.{NoMemory, HistoryFull, TicketsSpent, AlreadyInPool, Full, Invalid}

abbrev pub number : Refusal → ℕ
number NoMemory = 1
number HistoryFull = 2
number TicketsSpent = 3
number (AlreadyInPool ticket) = 4
number (Full need free) = 5
number (Invalid fault) = 6
