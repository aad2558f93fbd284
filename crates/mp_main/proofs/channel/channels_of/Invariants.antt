use Rattle.std.proofs.Common.{◌≡◌, All, length}
use Rattle.mp_serve.specs.declared.device.Turn.TheVariants.{Listens}
use Rattle.mp_main.specs.Channel.{turn_of}
use Rattle.mp_main.proofs.channel.channels_of.Given as goal

abbrev pub invariant-loop-names : goal.invariant-loop-names
invariant-loop-names l = All (λ c. turn_of c ≡ Listens) l.channels.items × (length l.channels.items ≡ l.names-index)
