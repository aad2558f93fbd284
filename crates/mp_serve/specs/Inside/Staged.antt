-- How contracts see what is staged.
use Rattle.std.specs.Prelude.{map}
use Rattle.std.specs.Arc.{arc_value}
use Rattle.mp_serve.specs.declared.staged.Staged.TheInside.{Inside}
use Rattle.mp_serve.specs.Staged.{Staged}

abbrev pub staged_of : Inside → Staged
staged_of s = record { txs = map arc_value s.txs.items; outputs = s.outputs; ledger = s.ledger }
