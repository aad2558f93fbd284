use Rattle.std.proofs.Common.{◌≡◌, ◌+◌, ◌<◌, ◌++◌, ◌∷◌, [], length, get_or, drop, sym, ap, subst, ◌∙◌}
use Rattle.mp_seqpool.specs.Inside.Command.{command_of, commands_of}
use Rattle.mp_seqpool.specs.PoolLaws.{IsLawful}
use Rattle.mp_seqpool.specs.Pool.{Pool}
use Rattle.mp_seqpool.specs.SlowPool.{answer, answers, pool_after}
use Rattle.mp_seqpool.proofs.Answering.{answered_one, led_one}
use Rattle.mp_seqpool.proofs.Histories.{lawful-next, signed}
use Rattle.mp_seqpool.proofs.playing.step_all.Goals as goal

pub step-requires : goal.step-requires
step-requires g c = signed (g.V.Verifier.accepts c.args.verifier.now) c.loop-command.pool.pool c.loop-command.invariant.2

pub loop-command-preserved : goal.loop-command-preserved
loop-command-preserved g c =
    let accepts = g.V.Verifier.accepts c.args.verifier.now in
    let p : Pool = c.loop-command.pool.pool in
    let n = c.loop-command.command-index in
    let cs = c.args.commands.now in
    let asked = c.command-item.result in
    let rest = commands_of (drop (n + 1) cs) in
    let within : n < length cs = c.loop-command-test.true in
    let is : asked ≡ get_or cs n asked = c.command-item.is in (
      ap (λ l. l ++ answers accepts c.step.new.self.pool rest) (c.in_ok-push.ensures.items ∙ ap (λ a. c.loop-command.told.items ++ a ∷ []) c.in_ok-step.ensures.answer)
          ∙ ap (λ q. (c.loop-command.told.items ++ answer accepts p (command_of asked) ∷ []) ++ answers accepts q rest) c.in_ok-step.ensures.next
          ∙ sym (answered_one accepts p cs n asked c.loop-command.told.items within is) ∙ c.loop-command.invariant.0,
      ap (λ q. pool_after accepts q rest) c.in_ok-step.ensures.next ∙ sym (led_one accepts p cs n asked within is) ∙ c.loop-command.invariant.1,
      subst (IsLawful accepts) (sym c.in_ok-step.ensures.next) (lawful-next accepts p (command_of asked) c.loop-command.invariant.2),
    )
