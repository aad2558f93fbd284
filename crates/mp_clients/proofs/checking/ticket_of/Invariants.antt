use Rattle.std.proofs.Common.{◌≡◌}
use Rattle.mp_seqpool.specs.SlowPool.{ticket_of}
use Rattle.mp_clients.proofs.checking.ticket_of.Given as goal

-- none of the items so far has the id
abbrev pub invariant-loop-item : goal.invariant-loop-item
invariant-loop-item l = ticket_of l.id l.fn.items ≡ ticket_of l.id l.item-iterator
