use Rattle.std.specs.Prelude.{Err}
use Rattle.std.specs.Process.{exit_status}
use mathlib.Core.Logic.{inr}
use Rattle.mp_signatures.specs.Scheme.{accepted_by}
use Rattle.mp_main.proofs.Ends.{keeps}
use Rattle.mp_main.proofs.Racing.{raced_ends}
use Rattle.mp_main.proofs.races.race_slowly.Goals as goal

pub returns-in-Ok : goal.returns-in-Ok
returns-in-Ok g c =
    raced_ends (accepted_by c.args.signatures.now) c.args.workers c.args.scenario.now c.in-Ok.raced (g.W.Write.contents c.args.writer.now) (g.W.Write.contents c.tell.new.writer) (exit_status c.tell.result) c.in-Ok.ensures.raced c.tell.ensures

pub returns-in-Err : goal.returns-in-Err
returns-in-Err g c = (Err tt, inr (keeps (g.W.Write.contents c.args.writer.now)), c.end_fault.ensures)
