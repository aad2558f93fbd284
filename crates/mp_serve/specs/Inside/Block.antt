-- What a block stores.
use Rattle.std.specs.Prelude.{map}
use Rattle.std.specs.Arc.{arc_value}
use Rattle.mp_serve.specs.declared.block.ResolvedBlock.TheInside.{Inside}
use Rattle.mp_serve.specs.Request.{ResolvedBlock}

abbrev pub block_of : Inside → ResolvedBlock
block_of b = record { tick = b.tick; block_bytes = b.block_bytes; txs = map arc_value b.txs.items }
