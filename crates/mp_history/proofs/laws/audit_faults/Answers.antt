use Rattle.mp_history.proofs.FirstFaults.{first, legal}
use Rattle.mp_history.proofs.laws.audit_faults.Goals as goal

pub returns-clause-first : goal.returns-clause-first
returns-clause-first c = first

pub returns-clause-legal : goal.returns-clause-legal
returns-clause-legal c = legal
