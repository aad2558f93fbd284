use Rattle.mp_example.specs.Names.{nobody}
use Rattle.mp_example.proofs.main.Given as goal

-- the name that was just made, for four callers
abbrev pub ghosts-open : goal.ghosts-open
ghosts-open g a = record { book = a.name.book; root = a.name.key; callers = 4; accepts = nobody }
