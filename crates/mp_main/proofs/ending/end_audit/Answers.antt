use Rattle.std.proofs.Common.{refl}
use Rattle.std.specs.Prelude.{Ok, Err}
use Rattle.mp_race.specs.declared.fault.RaceFault.TheVariants.{WriteFault}
use Rattle.mp_main.proofs.Ends.{keeps}
use Rattle.mp_main.proofs.ending.end_audit.Goals as goal

pub returns-in-Ok-write_all : goal.returns-in-Ok-write_all
returns-in-Ok-write_all g c = (Ok tt, rw c.in-Ok.is c.in-Ok-write_all.ensures.ok, refl)

pub returns-in-Err-write_all : goal.returns-in-Err-write_all
returns-in-Err-write_all g c = (Err WriteFault, rw c.in-Ok.is c.in-Err-write_all.ensures.err, c.end_fault.ensures)

pub returns-in-Err : goal.returns-in-Err
returns-in-Err g c = (Err c.in-Err.fault, rw c.in-Err.is (refl, keeps (g.W.Write.contents c.args.writer.now)), c.end_fault_there.ensures)
