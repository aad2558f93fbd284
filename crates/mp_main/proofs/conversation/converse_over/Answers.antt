use Rattle.std.proofs.Common.{refl}
use Rattle.std.specs.Prelude.{Ok, Err}
use Rattle.mp_main.proofs.conversation.converse_over.Goals as goal

pub returns-in-Ok : goal.returns-in-Ok
returns-in-Ok g c = (Ok tt, (c.in-Ok.ensures.answers, c.in-Ok.ensures.turn), refl)

pub returns-in-Err : goal.returns-in-Err
returns-in-Err g c = (Err c.in-Err.fault, (c.in-Err.ensures.answers, c.in-Err.ensures.turn), c.end_fault.ensures)
