use Rattle.mp_testing.specs.Names.{any}
use Rattle.mp_mempool_tests.proofs.mempool.threads.submit_part.Given as goal

-- the name that was just made, for three callers
abbrev pub ghosts-of_name : goal.ghosts-of_name
ghosts-of_name g a = record { book = a.name.book; root = a.name.key; callers = 3; accepts = any }
