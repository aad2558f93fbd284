use Rattle.std.proofs.Common.{◌∙◌}
use Rattle.mp_names.proofs.Reporting.{left-noted, left-unnoted}
use Rattle.mp_names.proofs.names.unreport.Goals as goal

pub returns-in-Some : goal.returns-in-Some
returns-in-Some c = c.forget.ensures ∙ left-noted c.args.bindings.now c.args.reported.now c.args.word.now c.in-Some.id (c.in-Some.ensures) c.requires

pub returns-in_default : goal.returns-in_default
returns-in_default c = left-unnoted c.args.bindings.now c.args.reported.now c.args.word.now (c.in_default.ensures) c.requires
