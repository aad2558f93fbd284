use Rattle.mp_example.specs.Names.{nobody}
use Rattle.mp_example.proofs.open.Given as goal

-- the name that was just made, for four callers
abbrev pub ghosts-hand_over : goal.ghosts-hand_over
ghosts-hand_over g a = record { book = a.name.book; root = a.name.key; callers = 4; accepts = nobody }
