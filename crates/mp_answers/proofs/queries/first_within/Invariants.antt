use Rattle.std.proofs.Common.{◌≡◌, ◌-◌, ◌≤◌, ◌++◌, length, take}
use Rattle.mp_seqpool.specs.ValidatedTx.{ticketed}
use Rattle.mp_seqpool.specs.Keep.{bytes_of}
use Rattle.mp_seqpool.specs.Item.{items_of}
use Rattle.mp_seqpool.specs.Reading.{within}
use Rattle.mp_answers.proofs.queries.first_within.Given as goal

-- the items so far, and those of the rest that still fit, are all
abbrev pub invariant-loop-ticket : goal.invariant-loop-ticket
invariant-loop-ticket l =
    (items_of l.found.items ++ take (l.count - length l.found.items) (within (l.room - l.bytes) (ticketed l.ticket-iterator)) ≡ take l.count (within l.room (ticketed l.fn.items)))
    × (l.bytes ≡ bytes_of (items_of l.found.items))
    × (l.bytes ≤ l.room)
    × (length l.found.items ≤ l.count)
