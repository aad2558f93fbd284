use Rattle.mp_testing.specs.Names.{any}
use Rattle.mp_mempool_tests.proofs.mempool.successors.see_freed.Given as goal

-- the name that was just made, for two callers
abbrev pub ghosts-see_held : goal.ghosts-see_held
ghosts-see_held g a = record { book = a.name.book; root = a.name.key; callers = 2; accepts = any }
