use Rattle.std.specs.Process.{exit_status}
use Rattle.mp_signatures.specs.Scheme.{accepted_by}
use Rattle.mp_main.proofs.Auditing.{audited, unread}
use Rattle.mp_main.proofs.audits.audit_over.Goals as goal

pub returns-in-Ok : goal.returns-in-Ok
returns-in-Ok g c =
    audited (accepted_by c.args.signatures.now) c.args.scenario.now (g.R.Read.remaining c.args.reader.now) c.in-Ok.history (g.W.Write.contents c.args.writer.now) (g.W.Write.contents c.end_audit.new.writer) c.audit_history.result
    (exit_status c.end_audit.result) c.in-Ok.ensures.read (c.audit_history.ensures.history, c.audit_history.ensures.fault) c.end_audit.ensures

pub returns-in-Err : goal.returns-in-Err
returns-in-Err g c =
    unread (accepted_by c.args.signatures.now) c.args.scenario.now (g.R.Read.remaining c.args.reader.now) (g.W.Write.contents c.args.writer.now) c.in-Err.fault (exit_status c.end_bad_history.result) c.in-Err.ensures.read
    c.end_bad_history.ensures
