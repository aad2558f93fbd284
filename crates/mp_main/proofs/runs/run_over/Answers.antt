use Rattle.std.specs.Process.{exit_status}
use Rattle.mp_main.proofs.Running.{unread, unkept}
use Rattle.mp_main.proofs.runs.run_over.Goals as goal

pub returns-in-Err-NoMemory : goal.returns-in-Err-NoMemory
returns-in-Err-NoMemory g c =
    unkept c.args.signatures.now (g.R.Read.remaining c.args.reader.now) (g.W.Write.contents c.args.writer.now) (exit_status c.end_fault.result) c.end_fault.ensures

pub returns-in-Err-Read : goal.returns-in-Err-Read
returns-in-Err-Read g c =
    unread c.args.signatures.now (g.R.Read.remaining c.args.reader.now) (g.W.Write.contents c.args.writer.now) (exit_status c.end_fault-in-Err-Read.result) c.end_fault-in-Err-Read.ensures
