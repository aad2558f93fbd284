use Rattle.std.proofs.Common.{◌∙◌, ap}
use Rattle.std.specs.Prelude.{option_map}
use Rattle.mp_tx.specs.Spelling.{id_of}
use Rattle.mp_names.specs.Names.{Names, tx_named}
use Rattle.mp_names.proofs.Reporting.{id_named}
use Rattle.mp_names.proofs.names.Names.tx_id.Goals as goal

pub returns : goal.returns
returns c =
    c.tx_id.ensures ∙ id_named c.self.inside.bindings c.args.word.now
    ∙ ap (λ (n : Names). option_map (λ t. id_of t.tx) (tx_named c.args.word.now n)) c.self.view_is
