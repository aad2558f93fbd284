use Rattle.mp_tx.proofs.typed.look_at.Goals as goal

pub returns : goal.returns
returns c = record {
  inputs = c.look_at_inputs.ensures;
  references = c.look_at_refs.ensures;
  outputs = c.look_at_outputs.ensures;
  from = c.look_at_tick.ensures;
  to = c.look_at_tick-2.ensures;
  forge = c.look_at_bundle.ensures;
  scripts = c.look_at_scripts.ensures;
  signatures = c.look_at_signatures.ensures;
}
