use Rattle.std.proofs.Common.{◌≡◌, ℕ, ◌+◌, List, sym, subst, rules}
use Rattle.std.specs.Prelude.{Option, IfSome, Ok, Err}
use Rattle.std.specs.Io.BufRead.{DropsThrough}
use Rattle.std.specs.Io.KnownBytes.{Appends}
use Rattle.mp_text.specs.Lines.{lines_of}
use Rattle.mp_text.specs.declared.line_input.LineRead.TheVariants.{End}
use Rattle.mp_text.specs.LineInput.{IsLine}
use Rattle.mp_serve.specs.Inside.Answer.{text_of}
use Rattle.mp_serve.specs.Served.{AppendsUpTo}
use Rattle.mp_serve.proofs.Progress.{no_line}
use Rattle.mp_clients.specs.declared.fault.ClientFault.TheVariants.{ReadFault}
use Rattle.mp_clients.specs.Answers.{IsTurn, IsBroken}
use Rattle.mp_clients.specs.Told.{Ended}
use Rattle.mp_clients.proofs.Progress.{ends, fails, breaks, ends_counting, stands-more, stands-cut}
use Rattle.mp_clients.proofs.Ending.{only_two}
use Rattle.mp_clients.proofs.conversing.answer_all.Goals as goal

pub returns-in-Err : goal.returns-in-Err
returns-in-Err g c =
    let Step = IsTurn g.N.PoolName.accepts g.N.PoolName.callers in
    let Breaks = IsBroken g.N.PoolName.accepts g.N.PoolName.callers in
    record {
      answers = subst (λ o. IfSome (g.D.Device.input c.args.device.now) (λ bytes. Ended Step Breaks c.args.conversation.now (lines_of bytes) (g.D.Device.output c.args.device.now) o (Err ReadFault) c.loop-count.conversation)) (sym c.in-Err.ensures.output)
          (fails Step Breaks c.args.conversation.now (g.D.Device.output c.args.device.now) (g.D.Device.output c.loop-count.device) c.loop-count.conversation c.loop-count._count (g.D.Device.input c.args.device.now) (g.D.Device.input c.loop-count.device) c.loop-count.invariant.0);
    }

pub returns : goal.returns
returns g c =
    let Step = IsTurn g.N.PoolName.accepts g.N.PoolName.callers in
    let Breaks = IsBroken g.N.PoolName.accepts g.N.PoolName.callers in
    record {
      answers = ends_counting Step Breaks c.args.conversation.now (g.D.Device.output c.args.device.now) (g.D.Device.output c.loop-count.device) c.loop-count.conversation c.loop-count._count (g.D.Device.input c.args.device.now) (g.D.Device.input c.loop-count.device) c.loop-count.invariant.0
          (search rules);
    }

pub returns-in-Ok-End : goal.returns-in-Ok-End
returns-in-Ok-End g c =
    let Step = IsTurn g.N.PoolName.accepts g.N.PoolName.callers in
    let Breaks = IsBroken g.N.PoolName.accepts g.N.PoolName.callers in
    record {
      answers = subst (λ o. IfSome (g.D.Device.input c.args.device.now) (λ bytes. Ended Step Breaks c.args.conversation.now (lines_of bytes) (g.D.Device.output c.args.device.now) o (Ok tt) c.loop-count.conversation)) (sym c.in-Ok-End.ensures.output)
          (ends Step Breaks c.args.conversation.now (g.D.Device.output c.args.device.now) (g.D.Device.output c.loop-count.device) c.loop-count.conversation c.loop-count._count (g.D.Device.input c.args.device.now) (g.D.Device.input c.loop-count.device) c.loop-count.invariant.0
          (no_line (g.D.Device.input c.loop-count.device) _ c.in-Ok-End.field-0 _ c.in-Ok-End.field-0-is c.in-Ok-End.ensures.line));
    }

pub returns-in-Err-answer : goal.returns-in-Err-answer
returns-in-Err-answer g c =
    let Step = IsTurn g.N.PoolName.accepts g.N.PoolName.callers in
    let Breaks = IsBroken g.N.PoolName.accepts g.N.PoolName.callers in
    record {
      answers = subst (λ o. IfSome (g.D.Device.input c.args.device.now) (λ bytes. Ended Step Breaks c.args.conversation.now (lines_of bytes) (g.D.Device.output c.args.device.now) o (Err c.in-Err-answer.fault) c.answer.new.conversation)) (sym c.in-Ok.ensures.output)
          (breaks Step Breaks c.args.conversation.now (g.D.Device.output c.args.device.now) (g.D.Device.output c.loop-count.device) c.loop-count.conversation c.loop-count._count
          c.answer.new.conversation c.in-Err-answer.fault (only_two g.N.PoolName.accepts g.N.PoolName.callers c.loop-count.conversation c.answer.new.conversation) c.in-Err-answer.ensures.err
          (g.D.Device.input c.args.device.now) (g.D.Device.input c.loop-count.device) c.loop-count.invariant.0);
    }

pub returns-in-Err-tell : goal.returns-in-Err-tell
returns-in-Err-tell g c =
    let Step = IsTurn g.N.PoolName.accepts g.N.PoolName.callers in
    let Breaks = IsBroken g.N.PoolName.accepts g.N.PoolName.callers in
    let left : Option (List ℕ) = g.D.Device.input c.loop-count.device in
    let answer : List ℕ = text_of c.in-Ok-answer.answer in
    let other : c.in-Ok.found ≡ End → ⊥ = λ e. search rules in
    record {
      answers = stands-cut Step Breaks c.args.conversation.now (g.D.Device.output c.args.device.now) (g.D.Device.output c.loop-count.device) c.loop-count.conversation c.loop-count._count
          left (g.D.Device.input c.read_line.new.self) (g.D.Device.output c.tell.new.device) c.count_line.new.self _ c.in-Ok.found c.deref.result.now answer other c.in-Ok.ensures.rest
          (subst (λ k. IfSome left (λ bytes. IsLine _ bytes c.in-Ok.found k)) (sym c.deref.ensures.value) c.in-Ok.ensures.line)
          (λ bytes line. (c.answer.new.conversation, c.in-Ok-answer.ensures.ok bytes line, c.count_line.ensures)) (g.D.Device.input c.args.device.now) c.loop-count.invariant.0
          (subst (λ o. AppendsUpTo o (g.D.Device.output c.tell.new.device) answer) c.in-Ok.ensures.output c.in-Err-tell.ensures.err);
    }

pub loop-count-preserved : goal.loop-count-preserved
loop-count-preserved g c =
    let Step = IsTurn g.N.PoolName.accepts g.N.PoolName.callers in
    let Breaks = IsBroken g.N.PoolName.accepts g.N.PoolName.callers in
    let left : Option (List ℕ) = g.D.Device.input c.loop-count.device in
    let answer : List ℕ = text_of c.in-Ok-answer.answer in
    let other : c.in-Ok.found ≡ End → ⊥ = λ e. search rules in (
      stands-more Step Breaks c.args.conversation.now (g.D.Device.output c.args.device.now) (g.D.Device.output c.loop-count.device) c.loop-count.conversation c.loop-count._count left
          (g.D.Device.input c.tell.new.device) (g.D.Device.output c.tell.new.device) c.count_line.new.self _ c.in-Ok.found c.deref.result.now answer other
          (subst (λ o. DropsThrough left o 10) (sym c.in-Ok-tell.ensures.input) c.in-Ok.ensures.rest)
          (subst (λ k. IfSome left (λ bytes. IsLine _ bytes c.in-Ok.found k)) (sym c.deref.ensures.value) c.in-Ok.ensures.line)
          (λ bytes line. (c.answer.new.conversation, c.in-Ok-answer.ensures.ok bytes line, c.count_line.ensures)) (g.D.Device.input c.args.device.now) c.loop-count.invariant.0
          (subst (λ o. Appends o (g.D.Device.output c.tell.new.device) answer) c.in-Ok.ensures.output c.in-Ok-tell.ensures.ok),
      c.in-Ok-tell.ensures.turn,
    )
