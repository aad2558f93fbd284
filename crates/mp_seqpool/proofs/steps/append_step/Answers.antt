use Rattle.mp_seqpool.proofs.Exits.{no_value}
use Rattle.mp_seqpool.proofs.steps.append_step.Goals as goal

pub returns-in_err-asked-clause-command : goal.returns-in_err-asked-clause-command
returns-in_err-asked-clause-command c = no_value c.from_residual.result _ c.from_residual.ensures.0

pub returns-in_err-asked-clause-reply : goal.returns-in_err-asked-clause-reply
returns-in_err-asked-clause-reply c = no_value c.from_residual.result _ c.from_residual.ensures.0

pub returns-in_err-asked-clause-effect : goal.returns-in_err-asked-clause-effect
returns-in_err-asked-clause-effect c = no_value c.from_residual.result _ c.from_residual.ensures.0

pub returns-in_err-applied-clause-command : goal.returns-in_err-applied-clause-command
returns-in_err-applied-clause-command c = no_value c.from_residual-in_err-applied.result _ c.from_residual-in_err-applied.ensures.0

pub returns-in_err-applied-clause-reply : goal.returns-in_err-applied-clause-reply
returns-in_err-applied-clause-reply c = no_value c.from_residual-in_err-applied.result _ c.from_residual-in_err-applied.ensures.0

pub returns-in_err-applied-clause-effect : goal.returns-in_err-applied-clause-effect
returns-in_err-applied-clause-effect c = no_value c.from_residual-in_err-applied.result _ c.from_residual-in_err-applied.ensures.0

pub returns-in_err-try_clone-clause-command : goal.returns-in_err-try_clone-clause-command
returns-in_err-try_clone-clause-command c = no_value c.from_residual-in_err-try_clone.result _ c.from_residual-in_err-try_clone.ensures.0

pub returns-in_err-try_clone-clause-reply : goal.returns-in_err-try_clone-clause-reply
returns-in_err-try_clone-clause-reply c = no_value c.from_residual-in_err-try_clone.result _ c.from_residual-in_err-try_clone.ensures.0

pub returns-in_err-try_clone-clause-effect : goal.returns-in_err-try_clone-clause-effect
returns-in_err-try_clone-clause-effect c = no_value c.from_residual-in_err-try_clone.result _ c.from_residual-in_err-try_clone.ensures.0
