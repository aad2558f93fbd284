use Rattle.std.proofs.Common.{◌≡◌, ◌<◌, ◌∙◌, ℕ, ap, refl, rules, subst, sym, length, slice_index_or}
use Rattle.std.specs.Prelude.{Ok, Err}
use Rattle.std.specs.Process.{exit_status}
use Rattle.std.specs.declared.marker.Brand.{Brand}
use Rattle.mp_serve.specs.declared.device.Turn.TheVariants.{Listens}
use Rattle.mp_serve.specs.declared.fault.ConversationFault.TheVariants.{WriteFault, ManyLines}
use Rattle.mp_signatures.specs.Scheme.{accepted_by}
use Rattle.mp_main.specs.Held.{EndsHeld}
use Rattle.mp_main.proofs.Holding.{before_on, cut_on, ends_early, ends_held, refused_on, stand_comes, stand_ends, stand_fails, stand_many, stands_new}
use Rattle.mp_main.proofs.clients.converse_from.Goals as goal

pub loop-count-init : goal.loop-count-init
loop-count-init g c = (
  stands_new c.args.start (g.D.Device.input c.args.device) (g.D.Device.output c.args.device),
  c.requires.listens,
  c.requires.before,
  refl,
)

pub returns-in-Ok-false : goal.returns-in-Ok-false
returns-in-Ok-false g c =
    let input = g.D.Device.input in
    let output = g.D.Device.output in
    let now = c.begin.new.device in
    let at = c.loop-count in
    ends_early Brand c.args.callers input output c.args.start c.args.device now c.args.clients.items _ (Ok tt) (input c.args.device)
    (stand_ends c.args.start (output c.args.device) (output at.device) (output now) at.operator at._count (input at.device)
    c.begin.new.line.items c.begin.new.conversation (input now) c.in-Ok-false.field-0 c.in-Ok-false.field-0-test (input c.args.device)
    at.invariant.0 c.in-Ok-false.ensures.begun) refl

pub returns-in-Err : goal.returns-in-Err
returns-in-Err g c =
    let input = g.D.Device.input in
    let output = g.D.Device.output in
    let now = c.begin.new.device in
    let at = c.loop-count in
    ends_early Brand c.args.callers input output c.args.start c.args.device now c.args.clients.items _ (Err c.in-Err.fault)
    (input c.args.device)
    (stand_fails c.args.start (output c.args.device) (output at.device) (output now) at.operator at._count (input at.device)
    c.begin.new.line.items c.begin.new.conversation (input now) c.in-Err.fault (input c.args.device) at.invariant.0 c.in-Err.ensures.begun)
    c.end_fault.ensures

pub returns-in-Ok : goal.returns-in-Ok
returns-in-Ok g c =
    let input = g.D.Device.input in
    let output = g.D.Device.output in
    let now = c.begin.new.device in
    let u = c.begin.new.conversation in
    let at = c.loop-count in
    let status = exit_status c.in-Ok.code in
    ends_held Brand c.args.callers input output c.args.start c.args.device now c.args.clients.items status c.begin.new.line.items u at._count
    (input c.args.device)
    (stand_comes c.args.start (output c.args.device) (output at.device) (output now) at.operator at._count (input at.device)
    c.begin.new.line.items u (input now) c.in-Ok-true.field-0 c.in-Ok-true.field-0-test (input c.args.device)
    at.invariant.0 c.in-Ok-true.ensures.begun)
    (subst (λ clients. EndsHeld Brand (accepted_by u.signatures) c.args.callers input output u c.begin.new.line.items now clients.items status)
    at.invariant.3 c.in-Ok.ensures.ok)

pub returns-in-Err-refuse : goal.returns-in-Err-refuse
returns-in-Err-refuse g c =
    let input = g.D.Device.input in
    let output = g.D.Device.output in
    let now = c.begin.new.device in
    let u = c.begin.new.conversation in
    let at = c.loop-count in
    let back = c.in-Err-open_and_serve.back in
    let same = c.in-Err-open_and_serve.ensures.err in
    ends_early Brand c.args.callers input output c.args.start c.args.device c.refuse.new.device c.args.clients.items _ (Err WriteFault)
    (input c.args.device)
    (cut_on input output c.args.start c.args.device now back.device c.refuse.new.device c.begin.new.line.items u back.operator
    c.refuse.new.conversation at._count (ap (λ w. w.device) same) (ap (λ w. w.operator) same)
    (stand_comes c.args.start (output c.args.device) (output at.device) (output now) at.operator at._count (input at.device)
    c.begin.new.line.items u (input now) c.in-Ok-true.field-0 c.in-Ok-true.field-0-test (input c.args.device)
    at.invariant.0 c.in-Ok-true.ensures.begun)
    c.in-Err-refuse.ensures.err) c.end_fault-in-Err-refuse.ensures

pub loop-count-preserved : goal.loop-count-preserved
loop-count-preserved g c =
    let input = g.D.Device.input in
    let output = g.D.Device.output in
    let now = c.begin.new.device in
    let u = c.begin.new.conversation in
    let at = c.loop-count in
    let back = c.in-Err-open_and_serve.back in
    let same = c.in-Err-open_and_serve.ensures.err in (
      refused_on input output c.args.start c.args.device now back.device c.refuse.new.device c.begin.new.line.items u back.operator
          c.refuse.new.conversation at._count (ap (λ w. w.device) same) (ap (λ w. w.operator) same)
          (stand_comes c.args.start (output c.args.device) (output at.device) (output now) at.operator at._count (input at.device)
          c.begin.new.line.items u (input now) c.in-Ok-true.field-0 c.in-Ok-true.field-0-test (input c.args.device)
          at.invariant.0 c.in-Ok-true.ensures.begun)
          c.in-Ok-refuse.ensures.ok c.in-Ok-refuse.ensures.input c.in-Ok-refuse.ensures.counted,
      c.in-Ok-refuse.ensures.turn,
      before_on u back.operator c.refuse.new.conversation (ap (λ w. w.operator) same) c.in-Ok-refuse.ensures.counted c.begin.ensures.before,
      ap (λ w. w.clients) same ∙ at.invariant.3,
    )

pub returns : goal.returns
returns g c =
    let input = g.D.Device.input in
    let output = g.D.Device.output in
    let at = c.loop-count in
    ends_early Brand c.args.callers input output c.args.start c.args.device at.device c.args.clients.items _ (Err ManyLines) (input c.args.device)
    (stand_many c.args.start (input c.args.device) (input at.device) (output c.args.device) (output at.device) at.operator at._count
    at.invariant.0 (search rules)) c.end_fault-2.ensures

-- the clients are those that were given
pub open_and_serve-requires-clause-listen : goal.open_and_serve-requires-clause-listen
open_and_serve-requires-clause-listen g c κs within =
    subst
    (λ clients. (k : ℕ) → (d : g.row.D.Denot) → k < length clients.items → g.D.Device.turn (slice_index_or clients.items k d) ≡ Listens)
    (sym c.loop-count.invariant.3) c.requires.listen
