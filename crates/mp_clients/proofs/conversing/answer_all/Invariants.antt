use Rattle.std.proofs.Common.{◌≡◌}
use Rattle.mp_serve.specs.declared.device.Turn.TheVariants.{Listens}
use Rattle.mp_clients.specs.Answers.{IsTurn}
use Rattle.mp_clients.proofs.Progress.{Stands}
use Rattle.mp_clients.proofs.conversing.answer_all.Given as goal

-- the lines so far were answered, and those that are left weren't read
abbrev pub invariant-loop-count : goal.invariant-loop-count
invariant-loop-count g l =
    Stands (IsTurn g.N.PoolName.accepts g.N.PoolName.callers) l.fn.conversation (g.D.Device.input l.fn.device) (g.D.Device.input l.device) (g.D.Device.output l.fn.device) (g.D.Device.output l.device) l.conversation l._count
    × (g.D.Device.turn l.device ≡ Listens)
