use Rattle.mp_signatures.specs.Scheme.{accepted_by}
use Rattle.mp_main.proofs.races.race_slowly.Given as goal

-- the new name, for as many callers as there are workers
abbrev pub ghosts-race : goal.ghosts-race
ghosts-race g a = record { book = a.name.book; root = a.name.key; callers = a.workers; accepts = accepted_by a.signatures.now }
