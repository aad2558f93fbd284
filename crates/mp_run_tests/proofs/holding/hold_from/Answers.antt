use Rattle.std.proofs.Common.{◌≡◌, ◌<◌, ℕ, subst, sym, length, slice_index_or}
use Rattle.mp_serve.specs.declared.device.Turn.TheVariants.{Listens}
use Rattle.mp_run_tests.proofs.holding.hold_from.Goals as goal

-- the clients are those that were given
pub open_and_serve-requires-clause-listen : goal.open_and_serve-requires-clause-listen
open_and_serve-requires-clause-listen g c κs within =
    subst
    (λ clients. (k : ℕ) → (d : g.row.D.Denot) → k < length clients.items → g.D.Device.turn (slice_index_or clients.items k d) ≡ Listens)
    (sym c.loop-count.invariant.2) c.requires.listen
