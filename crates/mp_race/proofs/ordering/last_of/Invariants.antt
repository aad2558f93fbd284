use Rattle.std.proofs.Common.{◌≡◌, take}
use Rattle.mp_history.specs.Log.{last_of}
use Rattle.mp_race.proofs.ordering.last_of.Given as goal

-- the last place so far
abbrev pub invariant-loop-place : goal.invariant-loop-place
invariant-loop-place l = l.last ≡ last_of l.caller (take l.place l.entries)
