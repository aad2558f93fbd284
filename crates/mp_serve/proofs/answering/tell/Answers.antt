use Rattle.std.proofs.Common.{subst}
use Rattle.std.specs.Io.KnownBytes.{Appends}
use Rattle.mp_text.specs.Output.{AppendsFront}
use Rattle.mp_serve.proofs.Answers.{on_ok, on_err, of_front, of_all, appends-kept}
use Rattle.mp_serve.proofs.answering.tell.Goals as goal

pub returns-in_err-write-clause-err : goal.returns-in_err-write-clause-err
returns-in_err-write-clause-err g c =
    on_err _ _ (of_front _ _ _ (subst (AppendsFront (g.D.Device.output c.args.device.now) (g.D.Device.output c.write.new.self)) c.text.ensures c.in_err-write.ensures.err))

pub returns-clause-ok : goal.returns-clause-ok
returns-clause-ok g c =
    on_ok c.flush.result _ (appends-kept _ _ _ _ (subst (Appends (g.D.Device.output c.args.device.now) (g.D.Device.output c.write.new.self)) c.text.ensures c.in_ok-write.ensures.ok) c.flush.ensures.output)

pub returns-clause-err : goal.returns-clause-err
returns-clause-err g c =
    on_err c.flush.result _ (of_all _ _ _ _ (subst (Appends (g.D.Device.output c.args.device.now) (g.D.Device.output c.write.new.self)) c.text.ensures c.in_ok-write.ensures.ok) c.flush.ensures.output)
