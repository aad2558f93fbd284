use Rattle.mp_bench.specs.Signatures.{any}
use Rattle.mp_bench.proofs.endurance.pools.open.Given as goal

-- the new name, for as many callers
abbrev pub ghosts-go_on : goal.ghosts-go_on
ghosts-go_on g a = record { book = a.name.book; root = a.name.key; callers = a.endurance.now.callers; accepts = any }
