use Rattle.std.proofs.Common.{◌≡◌, ◌<◌, length}
use Rattle.std.specs.Prelude.{All}
use Rattle.mp_text.specs.Words.{words_of}
use Rattle.mp_race.specs.Inside.HistoryWords.{tickets_in}
use Rattle.mp_race.proofs.TicketsRead.{with_tickets}
use Rattle.mp_race.proofs.reading.read_tickets.Given as goal

-- the tickets so far, and those of the words that are left; `least` is above all tickets so far
abbrev pub invariant-loop-word : goal.invariant-loop-word
invariant-loop-word l = record {
  reads : with_tickets l.tickets (tickets_in l.least (words_of l.rest)) ≡ tickets_in 0 (words_of l.words);
  below : All (λ t. t < l.least) l.tickets;
}

abbrev pub decreases-loop-word : goal.decreases-loop-word
decreases-loop-word l = length l.rest
