use Rattle.mp_bench.specs.Signatures.{any}
use Rattle.mp_bench.proofs.endurance.pools.play_pools.Given as goal

-- the new name, for this many callers
abbrev pub ghosts-open : goal.ghosts-open
ghosts-open g a = record { book = a.name.book; root = a.name.key; callers = a.endurance.now.callers; accepts = any }
