use Rattle.std.proofs.Common.{◌≡◌, ℕ, ◌+◌, List, sym, subst, rules}
use Rattle.std.specs.Prelude.{Option, IfSome, Ok, Err}
use Rattle.std.specs.Io.BufRead.{DropsThrough}
use Rattle.std.specs.Io.KnownBytes.{Appends}
use Rattle.mp_text.specs.declared.line_input.LineRead.TheVariants.{End}
use Rattle.mp_text.specs.LineInput.{IsLine}
use Rattle.mp_serve.specs.declared.conversation.Conversation.{Conversation}
use Rattle.mp_serve.specs.declared.fault.ConversationFault.TheVariants.{ReadFault}
use Rattle.mp_serve.specs.Inside.Answer.{text_of}
use Rattle.mp_serve.specs.Served.{AppendsUpTo, Ended}
use Rattle.mp_serve.proofs.Progress.{Stands, no_line, ends, fails, ends_counting, stands-more, stands-cut}
use Rattle.mp_serve.proofs.serving.answer_all.Goals as goal

pub returns-in-Err-clause-answers : goal.returns-in-Err-clause-answers
returns-in-Err-clause-answers g c =
    subst (λ o. IfSome (g.D.Device.input c.args.device.now) (λ bytes. Ended c.args.conversation.now bytes (g.D.Device.output c.args.device.now) o (Err ReadFault))) (sym c.in-Err.ensures.output)
    (fails c.args.conversation.now (g.D.Device.output c.args.device.now) (g.D.Device.output c.loop-count.device) c.loop-count.conversation c.loop-count._count (g.D.Device.input c.args.device.now) (g.D.Device.input c.loop-count.device) c.loop-count.invariant.0)

pub returns-clause-answers : goal.returns-clause-answers
returns-clause-answers g c =
    ends_counting c.args.conversation.now (g.D.Device.output c.args.device.now) (g.D.Device.output c.loop-count.device) c.loop-count.conversation c.loop-count._count (g.D.Device.input c.args.device.now) (g.D.Device.input c.loop-count.device) c.loop-count.invariant.0
    (search rules)

pub returns-in-Err-tell : goal.returns-in-Err-tell
returns-in-Err-tell g c =
    let left : Option (List ℕ) = g.D.Device.input c.loop-count.device in
    let answer : List ℕ = text_of c.answer-answer.result in
    let other : c.in-Ok.found ≡ End → ⊥ = λ e. search rules in
    record {
      answers = stands-cut c.args.conversation.now (g.D.Device.output c.args.device.now) (g.D.Device.output c.loop-count.device) c.loop-count.conversation c.loop-count._count
          left (g.D.Device.input c.read_line.new.self) (g.D.Device.output c.tell.new.device) c.answer-answer.new.conversation _ c.in-Ok.found c.deref.result.now answer other c.in-Ok.ensures.rest
          (subst (λ k. IfSome left (λ bytes. IsLine _ bytes c.in-Ok.found k)) (sym c.deref.ensures.value) c.in-Ok.ensures.line) c.answer-answer.ensures (g.D.Device.input c.args.device.now) c.loop-count.invariant.0
          (subst (λ o. AppendsUpTo o (g.D.Device.output c.tell.new.device) answer) c.in-Ok.ensures.output c.in-Err-tell.ensures.err);
      turn = c.in-Err-tell.ensures.failed;
    }

pub loop-count-preserved : goal.loop-count-preserved
loop-count-preserved g c =
    let left : Option (List ℕ) = g.D.Device.input c.loop-count.device in
    let answer : List ℕ = text_of c.answer-answer.result in
    let other : c.in-Ok.found ≡ End → ⊥ = λ e. search rules in (
      subst (λ (v : Conversation). Stands c.args.conversation.now (g.D.Device.input c.args.device.now) (g.D.Device.input c.tell.new.device) (g.D.Device.output c.args.device.now) (g.D.Device.output c.tell.new.device) v (c.loop-count._count + 1))
          (sym c.count_line.ensures)
          (stands-more c.args.conversation.now (g.D.Device.output c.args.device.now) (g.D.Device.output c.loop-count.device) c.loop-count.conversation c.loop-count._count left
          (g.D.Device.input c.tell.new.device) (g.D.Device.output c.tell.new.device) c.answer-answer.new.conversation _ c.in-Ok.found c.deref.result.now answer other
          (subst (λ o. DropsThrough left o 10) (sym c.in-Ok-tell.ensures.input) c.in-Ok.ensures.rest)
          (subst (λ k. IfSome left (λ bytes. IsLine _ bytes c.in-Ok.found k)) (sym c.deref.ensures.value) c.in-Ok.ensures.line) c.answer-answer.ensures (g.D.Device.input c.args.device.now) c.loop-count.invariant.0
          (subst (λ o. Appends o (g.D.Device.output c.tell.new.device) answer) c.in-Ok.ensures.output c.in-Ok-tell.ensures.ok)),
      c.in-Ok-tell.ensures.turn,
    )

pub returns-in-Ok-End-clause-answers : goal.returns-in-Ok-End-clause-answers
returns-in-Ok-End-clause-answers g c =
    subst (λ o. IfSome (g.D.Device.input c.args.device.now) (λ bytes. Ended c.args.conversation.now bytes (g.D.Device.output c.args.device.now) o (Ok tt))) (sym c.in-Ok-End.ensures.output)
    (ends c.args.conversation.now (g.D.Device.output c.args.device.now) (g.D.Device.output c.loop-count.device) c.loop-count.conversation c.loop-count._count (g.D.Device.input c.args.device.now) (g.D.Device.input c.loop-count.device) c.loop-count.invariant.0
    (no_line (g.D.Device.input c.loop-count.device) _ c.in-Ok-End.field-0 _ c.in-Ok-End.field-0-is c.in-Ok-End.ensures.line))
