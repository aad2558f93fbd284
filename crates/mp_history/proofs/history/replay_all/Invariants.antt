use Rattle.std.proofs.Common.{◌≡◌, take}
use Rattle.mp_history.specs.Log.{IsLegal, pool_of}
use Rattle.mp_history.proofs.history.replay_all.Given as goal

-- the entries so far are legal, and the pool is the one after them
abbrev pub invariant-loop-place : goal.invariant-loop-place
invariant-loop-place g l =
    IsLegal (g.V.Verifier.accepts l.verifier) l.fn.callers l.fn.pool.pool (take l.place l.entries)
    × (l.pool.pool ≡ pool_of (g.V.Verifier.accepts l.verifier) l.fn.pool.pool (take l.place l.entries))
