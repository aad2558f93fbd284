use Rattle.std.proofs.Common.{◌∙◌}
use Rattle.mp_tx.proofs.Layering.{if_ok}
use Rattle.mp_tx.proofs.ledger.outputs.make_table.Goals as goal

pub returns-clause-utxo : goal.returns-clause-utxo
returns-clause-utxo c = if_ok c.of.result (λ o is. is ∙ c.in_ok-settled.ensures.settled) c.of.ensures.utxo

pub returns-clause-salt : goal.returns-clause-salt
returns-clause-salt c = if_ok c.of.result (λ o is. is ∙ c.in_ok-settled.ensures.salt) c.of.ensures.salt
