use Rattle.mp_signatures.specs.Scheme.{accepted_by}
use Rattle.mp_run_tests.proofs.cases.race_new.Given as goal

-- the new name, for as many callers as there are workers
abbrev pub ghosts-race_named : goal.ghosts-race_named
ghosts-race_named g a = record { book = a.name.book; root = a.name.key; callers = a.workers; accepts = accepted_by a.signatures.now }
