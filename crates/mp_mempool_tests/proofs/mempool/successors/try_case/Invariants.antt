use Rattle.mp_testing.specs.Names.{any}
use Rattle.mp_mempool_tests.proofs.mempool.successors.try_case.Given as goal

-- the name that was just made, for this many callers
abbrev pub ghosts-see : goal.ghosts-see
ghosts-see g a = record { book = a.name.book; root = a.name.key; callers = a.case.heirs; accepts = any }
