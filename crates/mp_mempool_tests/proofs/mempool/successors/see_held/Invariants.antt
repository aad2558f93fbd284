use Rattle.mp_testing.specs.Names.{any}
use Rattle.mp_mempool_tests.proofs.mempool.successors.see_held.Given as goal

-- the name that was just made, for this many callers
abbrev pub ghosts-count_held : goal.ghosts-count_held
ghosts-count_held g a = record { book = a.name.book; root = a.name.key; callers = 1; accepts = any }
