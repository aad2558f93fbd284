use Rattle.std.proofs.Common.{◌≡◌, ◌++◌, drop}
use Rattle.mp_rules.specs.Verifier.{Accepts}
use Rattle.mp_seqpool.specs.SlowPool.{answers, pool_after}
use Rattle.mp_seqpool.specs.PoolLaws.{IsLawful}
use Rattle.mp_seqpool.specs.Inside.Command.{commands_of}
use Rattle.mp_seqpool.proofs.playing.step_all.Given as goal

-- the answers so far and those to the remaining commands are all, the remaining commands lead to the final state, and
-- the pool is lawful
abbrev pub invariant-loop-command : goal.invariant-loop-command
invariant-loop-command g l =
    let accepts : Accepts = g.V.Verifier.accepts l.verifier in
    (l.told.items ++ answers accepts l.pool.pool (commands_of (drop l.command-index l.commands)) ≡ l.fn.told.items ++ answers accepts l.fn.pool.pool (commands_of l.commands))
    × (pool_after accepts l.pool.pool (commands_of (drop l.command-index l.commands)) ≡ pool_after accepts l.fn.pool.pool (commands_of l.commands))
    × IsLawful accepts l.pool.pool
