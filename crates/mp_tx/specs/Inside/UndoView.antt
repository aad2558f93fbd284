-- How contracts see what a block changed.
use Rattle.mp_tx.specs.declared.undo.Undo.TheInside.{Inside}
use Rattle.mp_tx.specs.Undo.{Undo}

abbrev pub undo : Inside → Undo
undo u = record { tick = u.tick; block_bytes = u.block_bytes; spent = u.spent.items; made = u.made.items }
