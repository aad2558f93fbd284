use Rattle.mp_seqpool.proofs.Exits.{no_value}
use Rattle.mp_seqpool.proofs.steps.sync_step.Goals as goal

pub returns-in_err-told-clause-command : goal.returns-in_err-told-clause-command
returns-in_err-told-clause-command c = no_value c.from_residual.result _ c.from_residual.ensures.0

pub returns-in_err-told-clause-reply : goal.returns-in_err-told-clause-reply
returns-in_err-told-clause-reply c = no_value c.from_residual.result _ c.from_residual.ensures.0

pub returns-in_err-told-clause-effect : goal.returns-in_err-told-clause-effect
returns-in_err-told-clause-effect c = no_value c.from_residual.result _ c.from_residual.ensures.0
