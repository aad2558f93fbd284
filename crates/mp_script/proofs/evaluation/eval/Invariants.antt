use Rattle.std.proofs.Common.{length}
use Rattle.std.specs.Prelude.{map}
use Rattle.mp_script.specs.Script.{Tree, Spells}
use Rattle.mp_script.specs.View.{view_of}
use Rattle.mp_script.specs.Value.{value_of}
use Rattle.mp_script.specs.Inside.Waiting.{Stands}
use Rattle.mp_script.proofs.evaluation.eval.Given as goal

-- the stack has the values of its expressions
abbrev pub invariant-loop-operator : goal.invariant-loop-operator
invariant-loop-operator l = (tree : Tree) → Spells l.script tree → Stands (view_of l.view) tree l.rest (map value_of l.stack)

abbrev pub decreases-loop-operator : goal.decreases-loop-operator
decreases-loop-operator l = length l.rest
