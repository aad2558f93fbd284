-- Commands that keep the ledger state.
use Rattle.mp_seqpool.specs.Command.{Command, Submit, Remove, Sync}

abbrev pub KeepsLedger : Command → Type 0
KeepsLedger (Submit t) = Unit {0}
KeepsLedger (Remove ids) = Unit {0}
KeepsLedger (Sync l) = ⊥
