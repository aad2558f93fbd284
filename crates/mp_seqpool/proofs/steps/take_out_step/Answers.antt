use Rattle.mp_seqpool.proofs.Exits.{no_value}
use Rattle.mp_seqpool.proofs.steps.take_out_step.Goals as goal

pub returns-in_err-dropped-clause-command : goal.returns-in_err-dropped-clause-command
returns-in_err-dropped-clause-command c = no_value c.from_residual.result _ c.from_residual.ensures.0

pub returns-in_err-dropped-clause-reply : goal.returns-in_err-dropped-clause-reply
returns-in_err-dropped-clause-reply c = no_value c.from_residual.result _ c.from_residual.ensures.0

pub returns-in_err-dropped-clause-effect : goal.returns-in_err-dropped-clause-effect
returns-in_err-dropped-clause-effect c = no_value c.from_residual.result _ c.from_residual.ensures.0
