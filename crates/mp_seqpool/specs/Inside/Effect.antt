-- An effect as the code stores it, without the shares.
use Rattle.std.specs.Prelude.{◌≡◌}
use Rattle.std.specs.Arc.{arc_value}
use Rattle.mp_seqpool.specs.declared.prepared.Effect.{Effect}
use Rattle.mp_seqpool.specs.declared.prepared.Effect.TheVariants as effects
use Rattle.mp_seqpool.specs.declared.prepared.Prepared.TheInside.{Inside}
use Rattle.mp_seqpool.specs.Inside.Command.{command_of}
use Rattle.mp_seqpool.specs.Prepared as told

abbrev pub effect_of : Effect → told.Effect
effect_of (effects.Append node applied) = told.Append node
effect_of (effects.Keep overlay kept) = told.Keep overlay.value kept
effect_of (effects.TakeOut gone) = told.TakeOut gone
effect_of (effects.Adopt ledger gone) = told.Adopt ledger gone

abbrev pub prepared : Inside → told.Prepared
prepared q = record { command = command_of q.command; reply = q.reply; effect = effect_of q.effect }

-- the node and the overlay get the same transaction
abbrev pub IsOfOne : Effect → Type 0
IsOfOne (effects.Append node applied) = arc_value applied ≡ node.tx
IsOfOne (effects.Keep overlay kept) = Unit {0}
IsOfOne (effects.TakeOut gone) = Unit {0}
IsOfOne (effects.Adopt ledger gone) = Unit {0}
