use Rattle.std.proofs.Common.{◌≡◌, ℕ, ◌+◌, List, sym, subst, rules}
use Rattle.std.specs.Prelude.{Option, IfSome, Err}
use Rattle.std.specs.Io.BufRead.{DropsThrough}
use Rattle.std.specs.Io.KnownBytes.{Appends}
use Rattle.mp_text.specs.declared.line_input.LineRead.{LineRead}
use Rattle.mp_text.specs.declared.line_input.LineRead.TheVariants.{End}
use Rattle.mp_text.specs.LineInput.{IsLine}
use Rattle.mp_serve.specs.declared.conversation.Conversation.{Conversation}
use Rattle.mp_serve.specs.declared.fault.ConversationFault.TheVariants.{ReadFault}
use Rattle.mp_serve.specs.Inside.Answer.{text_of}
use Rattle.mp_serve.specs.Served.{AppendsUpTo, Ended}
use Rattle.mp_serve.proofs.Progress.{Stands, no_line, fails, ends_counting, stands-more, stands-cut}
use Rattle.mp_clients.specs.Beginning.{IsBefore, HasCome, AreAll}
use Rattle.mp_clients.proofs.Before.{all_told, has_come}
use Rattle.mp_clients.proofs.beginning.begin.Goals as goal

pub returns-in-Err-clause-begun : goal.returns-in-Err-clause-begun
returns-in-Err-clause-begun g c =
    subst (λ o. IfSome (g.D.Device.input c.args.device.now) (λ bytes. Ended c.args.conversation.now bytes (g.D.Device.output c.args.device.now) o (Err ReadFault))) (sym c.in-Err.ensures.output)
    (fails c.args.conversation.now (g.D.Device.output c.args.device.now) (g.D.Device.output c.loop-count.device) c.loop-count.conversation c.loop-count._count (g.D.Device.input c.args.device.now) (g.D.Device.input c.loop-count.device) c.loop-count.invariant.0)

pub returns-clause-begun : goal.returns-clause-begun
returns-clause-begun g c =
    ends_counting c.args.conversation.now (g.D.Device.output c.args.device.now) (g.D.Device.output c.loop-count.device) c.loop-count.conversation c.loop-count._count (g.D.Device.input c.args.device.now) (g.D.Device.input c.loop-count.device) c.loop-count.invariant.0
    (search rules)

pub returns-in-Ok-End-clause-begun : goal.returns-in-Ok-End-clause-begun
returns-in-Ok-End-clause-begun g c =
    subst (λ o. IfSome (g.D.Device.input c.args.device.now) (λ bytes. AreAll c.args.conversation.now bytes (g.D.Device.output c.args.device.now) o c.loop-count.conversation)) (sym c.in-Ok-End.ensures.output)
    (all_told c.args.conversation.now (g.D.Device.output c.args.device.now) (g.D.Device.output c.loop-count.device) c.loop-count.conversation c.loop-count._count (g.D.Device.input c.args.device.now) (g.D.Device.input c.loop-count.device) c.loop-count.invariant.0
    (no_line (g.D.Device.input c.loop-count.device) _ c.in-Ok-End.field-0 _ c.in-Ok-End.field-0-is c.in-Ok-End.ensures.line))

pub returns-in-None-clause-begun : goal.returns-in-None-clause-begun
returns-in-None-clause-begun g c =
    let all : Option (List ℕ) = g.D.Device.input c.args.device.now in
    let left : Option (List ℕ) = g.D.Device.input c.loop-count.device in
    let after : Option (List ℕ) = g.D.Device.input c.read_line.new.self in
    let start : Conversation = c.args.conversation.now in
    let old : Option (List ℕ) = g.D.Device.output c.args.device.now in
    let none = c.in-None.ensures.none in
    let line = subst (λ k. IfSome left (λ bytes. IsLine _ bytes c.in-Ok.found k)) (sym c.deref.ensures.value) c.in-Ok.ensures.line in
    subst (λ (u : Conversation). IfSome all (λ bytes. HasCome start bytes old (g.D.Device.output c.read_line.new.self) c.read_line.new.line.items u after)) (sym none.2)
    (subst (λ (l : List ℕ). IfSome all (λ bytes. HasCome start bytes old (g.D.Device.output c.read_line.new.self) l c.loop-count.conversation after)) c.deref.ensures.value
    (subst (λ (o : Option (List ℕ)). IfSome all (λ bytes. HasCome start bytes old o c.deref.result.now c.loop-count.conversation after)) (sym c.in-Ok.ensures.output)
    (has_come start old (g.D.Device.output c.loop-count.device) c.loop-count.conversation c.loop-count._count left after c.deref.result.now c.in-Ok.ensures.rest
    (subst (λ (f : LineRead). IfSome left (λ bytes. IsLine _ bytes f c.deref.result.now)) none.0 line) none.1 all c.loop-count.invariant.0)))

pub returns-in-Err-tell : goal.returns-in-Err-tell
returns-in-Err-tell g c =
    let left : Option (List ℕ) = g.D.Device.input c.loop-count.device in
    let answer : List ℕ = text_of c.in-Some.answer in
    let other : c.in-Ok.found ≡ End → ⊥ = λ e. search rules in
    record {
      begun = stands-cut c.args.conversation.now (g.D.Device.output c.args.device.now) (g.D.Device.output c.loop-count.device) c.loop-count.conversation c.loop-count._count
          left (g.D.Device.input c.read_line.new.self) (g.D.Device.output c.tell.new.device) c.answer_found.new.conversation _ c.in-Ok.found c.deref.result.now answer other c.in-Ok.ensures.rest
          (subst (λ k. IfSome left (λ bytes. IsLine _ bytes c.in-Ok.found k)) (sym c.deref.ensures.value) c.in-Ok.ensures.line) c.in-Some.ensures.some (g.D.Device.input c.args.device.now) c.loop-count.invariant.0
          (subst (λ o. AppendsUpTo o (g.D.Device.output c.tell.new.device) answer) c.in-Ok.ensures.output c.in-Err-tell.ensures.err);
      turn = tt;
      before = c.answer_found.ensures.before c.loop-count.invariant.2;
    }

pub loop-count-preserved : goal.loop-count-preserved
loop-count-preserved g c =
    let left : Option (List ℕ) = g.D.Device.input c.loop-count.device in
    let answer : List ℕ = text_of c.in-Some.answer in
    let other : c.in-Ok.found ≡ End → ⊥ = λ e. search rules in (
      subst (λ (v : Conversation). Stands c.args.conversation.now (g.D.Device.input c.args.device.now) (g.D.Device.input c.tell.new.device) (g.D.Device.output c.args.device.now) (g.D.Device.output c.tell.new.device) v (c.loop-count._count + 1))
          (sym c.count_line.ensures)
          (stands-more c.args.conversation.now (g.D.Device.output c.args.device.now) (g.D.Device.output c.loop-count.device) c.loop-count.conversation c.loop-count._count left
          (g.D.Device.input c.tell.new.device) (g.D.Device.output c.tell.new.device) c.answer_found.new.conversation _ c.in-Ok.found c.deref.result.now answer other
          (subst (λ o. DropsThrough left o 10) (sym c.in-Ok-tell.ensures.input) c.in-Ok.ensures.rest)
          (subst (λ k. IfSome left (λ bytes. IsLine _ bytes c.in-Ok.found k)) (sym c.deref.ensures.value) c.in-Ok.ensures.line) c.in-Some.ensures.some (g.D.Device.input c.args.device.now) c.loop-count.invariant.0
          (subst (λ o. Appends o (g.D.Device.output c.tell.new.device) answer) c.in-Ok.ensures.output c.in-Ok-tell.ensures.ok)),
      c.in-Ok-tell.ensures.turn,
      subst (λ (v : Conversation). IsBefore v.session.stage) (sym c.count_line.ensures) (c.answer_found.ensures.before c.loop-count.invariant.2),
    )
