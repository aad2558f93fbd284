use Rattle.std.proofs.Common.{◌≡◌, ◌++◌}
use Rattle.std.specs.Prelude.{map, All}
use Rattle.std.specs.Vec.Iter.{into_iter_items}
use Rattle.mp_clients.specs.Opening.{seat_of}
use Rattle.mp_clients.proofs.opening.seats_of.Given as goal

-- the seats so far and those of the passes that are left are all of them
abbrev pub invariant-loop-pass : goal.invariant-loop-pass
invariant-loop-pass g l =
    (l.seats.items ++ map (seat_of l.signatures l.ledger l.most_names) (into_iter_items l.pass-iterator) ≡ map (seat_of l.signatures l.ledger l.most_names) l.fn.passes.items)
    × All (λ p. l.limit ≡ p.front.opening.limit) (into_iter_items l.pass-iterator)
