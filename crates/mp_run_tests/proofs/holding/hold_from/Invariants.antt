use Rattle.std.proofs.Common.{◌≡◌}
use Rattle.mp_serve.specs.declared.device.Turn.TheVariants.{Listens}
use Rattle.mp_signatures.specs.Scheme.{accepted_by}
use Rattle.mp_clients.specs.Beginning.{IsBefore}
use Rattle.mp_run_tests.proofs.holding.hold_from.Given as goal

-- the new name, for as many callers as there are conversations
abbrev pub ghosts-open_and_serve : goal.ghosts-open_and_serve
ghosts-open_and_serve g a = record {
  book = a.name.book;
  root = a.name.key;
  callers = a.callers;
  accepts = accepted_by a.waiting.operator.signatures;
}

-- the pool isn't open, and the clients wait
abbrev pub invariant-loop-count : goal.invariant-loop-count
invariant-loop-count g l =
    (g.D.Device.turn l.device ≡ Listens)
    × IsBefore l.operator.session.stage
    × (l.clients ≡ l.fn.clients)
