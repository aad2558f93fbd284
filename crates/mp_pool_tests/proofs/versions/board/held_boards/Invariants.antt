use Rattle.mp_testing.specs.Names.{any}
use Rattle.mp_pool_tests.proofs.versions.board.held_boards.Given as goal

-- the name that was just made, for one caller
abbrev pub ghosts-of_name : goal.ghosts-of_name
ghosts-of_name g a = record { book = a.name.book; root = a.name.key; callers = 1; accepts = any }
