use Rattle.std.proofs.Common.{subst, sym}
use Rattle.mp_names.specs.Inside.Reported.{AreDeclared}
use Rattle.mp_names.proofs.Reporting.{declared-none}
use Rattle.mp_names.proofs.names.Names.new.Goals as goal

pub invariant_of-result : goal.invariant_of-result
invariant_of-result c = subst (AreDeclared c.new.result) (sym c.new-2.ensures) (declared-none c.new.result)
