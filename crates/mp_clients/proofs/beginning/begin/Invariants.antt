use Rattle.std.proofs.Common.{◌≡◌}
use Rattle.mp_serve.specs.declared.device.Turn.TheVariants.{Listens}
use Rattle.mp_serve.proofs.Progress.{Stands}
use Rattle.mp_clients.specs.Beginning.{IsBefore}
use Rattle.mp_clients.proofs.beginning.begin.Given as goal

-- the lines so far were answered, those that are left weren't read, and the pool isn't open
abbrev pub invariant-loop-count : goal.invariant-loop-count
invariant-loop-count g l =
    Stands l.fn.conversation (g.D.Device.input l.fn.device) (g.D.Device.input l.device) (g.D.Device.output l.fn.device) (g.D.Device.output l.device) l.conversation l._count
    × (g.D.Device.turn l.device ≡ Listens)
    × IsBefore l.conversation.session.stage
