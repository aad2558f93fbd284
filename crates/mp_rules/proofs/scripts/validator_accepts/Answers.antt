use Rattle.std.proofs.Common.{◌∙◌, ap, map}
use Rattle.mp_script.specs.View.{paid_to_of, referred_of}
use Rattle.mp_rules.specs.Scripts.{script_accepts}
use Rattle.mp_rules.specs.Inside.ScriptContext.{validator_context}
use Rattle.mp_rules.proofs.scripts.validator_accepts.Goals as goal

pub returns : goal.returns
returns c = c.accepts.ensures ∙ ap (λ view. script_accepts view c.args.input.now.validator) (λ i. record (validator_context c.args.context.now c.args.input.now c.args.output.now) {
  own_hash = c.hash.ensures i;
  keys = c.deref.ensures.value i;
  outputs = map paid_to_of (c.deref-2.ensures.value i);
  references = map referred_of (c.deref-3.ensures.value i);
})
