use Rattle.std.proofs.Common.{◌++◌, sym, ap, is_none}
use Rattle.std.specs.List.{filter_map}
use Rattle.std.proofs.lemmas.Iterator.Adapters.{position_from-zero}
use Rattle.mp_rules.proofs.map.referenced_outputs.Goals as goal

pub loop-place-init : goal.loop-place-init
loop-place-init g c = (
  ap (λ items. items ++ filter_map (g.U.Utxo.map c.args.utxo.now) c.args.references.now) c.in_ok-outputs.ensures.items,
  sym (position_from-zero (λ r. is_none (g.U.Utxo.map c.args.utxo.now r)) c.args.references.now),
)
