use Rattle.std.proofs.Common.{◌≡◌, take}
use Rattle.std.specs.List.{filter_map}
use Rattle.mp_seqpool.specs.SlowPool.{ticket_of}
use Rattle.mp_seqpool.proofs.pool.SeqPool.tickets_of.Given as goal

abbrev pub invariant-loop-id : goal.invariant-loop-id
invariant-loop-id l = l.found.items ≡ filter_map (λ id. ticket_of id l.self.pool.items) (take l.id-index l.ids)
