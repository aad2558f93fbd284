use Rattle.std.proofs.Common.{◌≡◌, ℕ, List, subst}
use Rattle.std.specs.Prelude.{Ok, Err}
use Rattle.mp_clients.specs.Answers.{IsTurn, IsBroken}
use Rattle.mp_clients.specs.Inside.Before.{IsFirst}
use Rattle.mp_clients.proofs.Progress.{first_then, first_only}
use Rattle.mp_clients.proofs.conversing.answer_after.Goals as goal

pub returns-in-Ok : goal.returns-in-Ok
returns-in-Ok g c =
    let Step = IsTurn g.N.PoolName.accepts g.N.PoolName.callers in
    let Breaks = IsBroken g.N.PoolName.accepts g.N.PoolName.callers in
    let first : (rest : List (List ℕ)) → IsFirst Step Breaks c.args.conversation.now c.args.line.now.items rest (g.D.Device.output c.args.device.now) (g.D.Device.output c.answer_first.new.device) (Ok tt) c.answer_first.new.conversation =
    λ rest. subst (λ l. IsFirst Step Breaks c.args.conversation.now l rest (g.D.Device.output c.args.device.now) (g.D.Device.output c.answer_first.new.device) (Ok tt) c.answer_first.new.conversation) c.deref.ensures.value (c.in-Ok.ensures.answers rest) in
    record {
      answers = first_then Step Breaks c.args.conversation.now c.answer_first.new.conversation c.answer_all.new.conversation c.args.line.now.items (g.D.Device.output c.args.device.now) (g.D.Device.output c.answer_first.new.device) (g.D.Device.output c.answer_all.new.device)
          (g.D.Device.input c.args.device.now) (g.D.Device.input c.answer_first.new.device) c.answer_all.result c.in-Ok.ensures.input first c.answer_all.ensures.answers;
    }

pub returns-in-Err : goal.returns-in-Err
returns-in-Err g c =
    let Step = IsTurn g.N.PoolName.accepts g.N.PoolName.callers in
    let Breaks = IsBroken g.N.PoolName.accepts g.N.PoolName.callers in
    record {
      answers = first_only Step Breaks c.args.conversation.now c.answer_first.new.conversation c.args.line.now.items (g.D.Device.output c.args.device.now) (g.D.Device.output c.answer_first.new.device) (g.D.Device.input c.args.device.now) c.in-Err.fault
          (λ rest. subst (λ l. IsFirst Step Breaks c.args.conversation.now l rest (g.D.Device.output c.args.device.now) (g.D.Device.output c.answer_first.new.device) (Err c.in-Err.fault) c.answer_first.new.conversation) c.deref.ensures.value (c.in-Err.ensures.answers rest));
    }
