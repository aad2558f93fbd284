use Rattle.std.proofs.Common.{subst}
use Rattle.mp_history.specs.AuditFault.{IsFaultOf}
use Rattle.mp_signatures.specs.Scheme.{accepted_by}
use Rattle.mp_race.proofs.Fitting.{not_strange}
use Rattle.mp_race.proofs.auditing.replay.Goals as goal

pub unreachable-requires : goal.unreachable-requires
unreachable-requires c =
    not_strange (accepted_by c.args.signatures.now) c.args.workers _ c.args.entries.now c.in-Err-StrangeCaller.field-0-0 c.requires
    (subst (IsFaultOf (accepted_by c.args.signatures.now) c.args.workers _ c.args.entries.now) c.in-Err-StrangeCaller.field-0-is c.in-Err-StrangeCaller.ensures.fault)
