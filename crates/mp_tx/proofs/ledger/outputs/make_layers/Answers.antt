use Rattle.std.proofs.Common.{List, ap, ◌∙◌}
use Rattle.std.specs.FinMap.{from_entries}
use Rattle.std.specs.Arc.{arc_value}
use Rattle.mp_tx.specs.Reference.{ref_cmp}
use Rattle.mp_tx.specs.Inside.Changes.{changed}
use Rattle.mp_tx.specs.Inside.Tables.{Layer, all_of}
use Rattle.mp_tx.proofs.ledger.outputs.make_layers.Goals as goal

pub returns-clause-utxo : goal.returns-clause-utxo
returns-clause-utxo c =
    ap (λ m. changed (from_entries {R = ref_cmp} m.entries) (all_of c.in_ok-layers.layers)) c.in_ok-try_clone.ensures
    ∙ ap (λ (ls : List Layer). changed (from_entries {R = ref_cmp} (arc_value c.args.base.now).entries) (all_of ls)) c.in_ok-layers.ensures
