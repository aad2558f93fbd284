use Rattle.mp_testing.specs.Names.{any}
use Rattle.mp_mempool_tests.proofs.mempool.pools.play.Given as goal

-- the name that was just made, for this many callers
abbrev pub ghosts-of_name : goal.ghosts-of_name
ghosts-of_name g a = record { book = a.name.book; root = a.name.key; callers = a.callers; accepts = any }
