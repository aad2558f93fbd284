use Rattle.std.proofs.Common.{subst}
use Rattle.std.specs.List.{All}
use Rattle.std.proofs.lemmas.List.{take_all}
use Rattle.std.proofs.lemmas.List.Elements.{All-more}
use Rattle.mp_script.specs.Script.{IsScript}
use Rattle.mp_tx.proofs.typed.look_at_scripts.Goals as goal

pub loop-script-preserved : goal.loop-script-preserved
loop-script-preserved c = All-more IsScript c.args.scripts.now c.loop-script.script-index _ c.loop-script-test.true c.loop-script.invariant (subst IsScript c.script-item.is c.look_at_script.ensures)

pub returns : goal.returns
returns c = subst (All IsScript) (take_all c.loop-script.script-index c.args.scripts.now c.loop-script-test.false) c.loop-script.invariant
