use Rattle.mp_testing.specs.Names.{any}
use Rattle.mp_mempool_tests.proofs.mempool.successors.see_case.Given as goal

-- the name that was just made, for two callers
abbrev pub ghosts-try_case : goal.ghosts-try_case
ghosts-try_case g a = record { book = a.name.book; root = a.name.key; callers = 2; accepts = any }
