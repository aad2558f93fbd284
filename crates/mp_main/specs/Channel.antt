-- What the two ends of a conversation have to do next.
use Rattle.mp_serve.specs.declared.device.Turn.{Turn}
use Rattle.mp_main.specs.declared.channel.Channel.{Channel}
use Rattle.mp_main.specs.declared.channel.Channel.TheVariants.{Operator, Client}

abbrev pub turn_of : Channel → Turn
turn_of (Operator streams) = streams.turn
turn_of (Client pipes) = pipes.turn
