use Rattle.std.proofs.Common.{refl}
use Rattle.mp_mempool.proofs.Points.{refusal_told}
use Rattle.mp_mempool.proofs.under_lock.refuse.Goals as goal

pub returns-in-Ok-clause-refused : goal.returns-in-Ok-clause-refused
returns-in-Ok-clause-refused g c command refused =
    refusal_told g.N.PoolName.accepts g.row.N.Denot g.N.PoolName.callers c.args.pass.now c.bring_up.new.pass c.args.locked.now.log c.args.refusal command (c.if-wants_memory.ensures.other refl)
    c.in-Ok.ensures.own c.requires.begins c.requires.known c.in-Ok.ensures.legal c.in-Ok.ensures.ok refused
