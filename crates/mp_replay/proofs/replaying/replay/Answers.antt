use Rattle.std.proofs.Common.{refl, ap, arith, ◌∷◌, ◌∙◌}
use Rattle.mp_text.specs.Lines.{lines_of}
use Rattle.mp_replay.specs.ServedHistory.{IsServedHistory}
use Rattle.mp_replay.specs.ReplayFault.{IsReplayFault}
use Rattle.mp_replay.proofs.Steps.{goes_on, legal, faulty, illegal, passed_on}
use Rattle.mp_replay.specs.declared.fault.ReplayFault.TheVariants as faults
use Rattle.std.proofs.Common.{◌≡◌}
use Rattle.mp_replay.proofs.replaying.replay.Goals as goal

pub loop-line-preserved : goal.loop-line-preserved
loop-line-preserved c =
    let step = c.in_ok-more.ensures.ok in
    let few = c.in_ok-more.ensures.few in
    let so_few = c.loop-line.invariant.few in
    let shorter = c.in_ok-more.ensures.shorter in
    let behind = c.in-Some.ensures.shorter in
    let within = c.loop-line.invariant.within in
    record {
      so_far = goes_on c.args.conversation.now (lines_of c.args.text.now) c.loop-line.conversation c.loop-line.entries c.loop-line.number (lines_of c.loop-line.rest.now)
          c.in-Some.line.now step.0 (lines_of c.in_ok-more.after.now) c.replay_from.new.conversation c.in_ok-more.more c.loop-line.invariant.so_far
          (c.in-Some.ensures.first ∙ ap (λ l. c.in-Some.line.now ∷ l) step.1) step.2;
      few = omega (arith, few, so_few);
      within = omega (arith, shorter, behind, within);
    }

pub returns-in_err-more-clause-fault : goal.returns-in_err-more-clause-fault
returns-in_err-more-clause-fault c =
    let fault = c.in_err-more.field-0.0 in
    passed_on c.from_residual.result (IsReplayFault c.args.conversation.now c.args.text.now) fault c.from_residual.ensures.1
    (faulty c.args.conversation.now c.args.text.now c.loop-line.conversation c.loop-line.entries c.loop-line.number (lines_of c.loop-line.rest.now)
    (c.in-Some.line.now ∷ lines_of c.in-Some.behind.now) fault c.loop-line.invariant.so_far c.in-Some.ensures.first c.in_err-more.ensures.err)

pub returns-in_err-more-clause-illegal : goal.returns-in_err-more-clause-illegal
returns-in_err-more-clause-illegal c =
    let fault = c.in_err-more.field-0.0 in
    passed_on c.from_residual.result (λ e. IsServedHistory c.args.conversation.now c.args.text.now → e ≡ faults.NoMemory) fault c.from_residual.ensures.1
    (illegal c.args.conversation.now c.args.text.now fault
    (faulty c.args.conversation.now c.args.text.now c.loop-line.conversation c.loop-line.entries c.loop-line.number (lines_of c.loop-line.rest.now)
    (c.in-Some.line.now ∷ lines_of c.in-Some.behind.now) fault c.loop-line.invariant.so_far c.in-Some.ensures.first c.in_err-more.ensures.err))

pub returns-clause-legal : goal.returns-clause-legal
returns-clause-legal c =
    legal c.args.conversation.now c.args.text.now c.loop-line.conversation c.loop-line.entries c.loop-line.number (lines_of c.loop-line.rest.now) c.loop-line.invariant.so_far
    (c.in_default.ensures.none.0 refl)
