use Rattle.std.proofs.Common.{◌∙◌}
use Rattle.mp_script.specs.View.{view_of}
use Rattle.mp_script.specs.Value.{value_of}
use Rattle.mp_rules.proofs.Evaluated.{accepted}
use Rattle.mp_rules.proofs.scripts.accepts.Goals as goal

pub returns : goal.returns
returns c = c.is_true.ensures ∙ accepted (view_of c.args.view.now) c.args.script.now (value_of c.eval-value.result) c.bytes.ensures.script c.eval-value.ensures
