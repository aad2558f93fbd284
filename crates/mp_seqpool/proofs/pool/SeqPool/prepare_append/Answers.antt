use Rattle.std.proofs.Common.{◌≡◌, ◌+◌, subst}
use Rattle.std.specs.Prelude.{IfOk}
use Rattle.mp_seqpool.specs.declared.command.Reply.TheVariants.{Accepted}
use Rattle.mp_seqpool.specs.Pool.{Holding}
use Rattle.mp_seqpool.specs.Prepared.{Prepared}
use Rattle.mp_seqpool.proofs.Exits.{no_value}
use Rattle.mp_seqpool.proofs.pool.SeqPool.prepare_append.Goals as goal

pub returns-in_err-reserve_for-clause-command : goal.returns-in_err-reserve_for-clause-command
returns-in_err-reserve_for-clause-command c = no_value c.from_residual.result _ c.from_residual.ensures.0

pub returns-in_err-reserve_for-clause-reply : goal.returns-in_err-reserve_for-clause-reply
returns-in_err-reserve_for-clause-reply c = no_value c.from_residual.result _ c.from_residual.ensures.0

pub returns-in_err-reserve_for-clause-effect : goal.returns-in_err-reserve_for-clause-effect
returns-in_err-reserve_for-clause-effect c = no_value c.from_residual.result _ c.from_residual.ensures.0

pub returns-in_err-reserve_for-clause-room : goal.returns-in_err-reserve_for-clause-room
returns-in_err-reserve_for-clause-room c = no_value c.from_residual.result _ c.from_residual.ensures.0

pub returns-clause-reply : goal.returns-clause-reply
returns-clause-reply c = subst (λ (h : Holding). IfOk c.append_step.result (λ (q : Prepared). q.reply ≡ Accepted (h.pool.last + 1))) c.self.view_is c.append_step.ensures.reply
