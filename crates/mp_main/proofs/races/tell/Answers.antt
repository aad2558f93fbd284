use Rattle.std.proofs.Common.{refl}
use Rattle.std.specs.Prelude.{Ok, Err}
use Rattle.mp_main.proofs.Racing.{none_written, part_written}
use Rattle.mp_main.proofs.races.tell.Goals as goal

pub returns-in-Err : goal.returns-in-Err
returns-in-Err g c = (Err tt, none_written c.args.raced.now.report (g.W.Write.contents c.args.writer.now), c.in-Err.ensures)

pub returns-in-Ok : goal.returns-in-Ok
returns-in-Ok g c = (Ok tt, c.in-Ok.ensures, refl)

pub returns-in-Err-write : goal.returns-in-Err-write
returns-in-Err-write g c = (
  Err tt,
  part_written c.args.raced.now.report (g.W.Write.contents c.args.writer.now) (g.W.Write.contents c.write.new.writer) c.in-Err-write.fault c.in-Err-write.ensures,
  c.end_fault.ensures,
)
