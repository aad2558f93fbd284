-- How contracts see a ledger state.
use Rattle.mp_tx.specs.declared.ledger.Ledger.TheInside.{Inside}
use Rattle.mp_tx.specs.Ledger.{LedgerState}

abbrev pub state : Inside → LedgerState
state l = record {
  tick = l.tick;
  block_bytes = l.block_bytes;
  utxo = l.outputs.utxo;
  salt = l.outputs.salt;
}
