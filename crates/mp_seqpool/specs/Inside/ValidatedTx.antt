-- A validated transaction without the share of its transaction.
use Rattle.std.specs.Arc.{arc_value}
use Rattle.mp_seqpool.specs.declared.validated_tx.ValidatedTx.TheInside.{Inside}
use Rattle.mp_seqpool.specs.ValidatedTx.{ValidatedTx}

abbrev pub validated_tx : Inside → ValidatedTx
validated_tx v = record { tx = arc_value v.tx; resolved = v.resolved }
