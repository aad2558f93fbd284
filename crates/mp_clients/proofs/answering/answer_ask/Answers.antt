use Rattle.std.proofs.Common.{refl, subst}
use Rattle.std.specs.Prelude.{false, true}
use Rattle.std.proofs.Common.{◌≡◌}
use Rattle.mp_serve.specs.Inside.Ask.{to_ask}
use Rattle.mp_clients.specs.Asking.{may_ask}
use Rattle.mp_clients.specs.Answers.{IsTaken}
use Rattle.mp_clients.specs.Inside.Steps.{IsStopped}
use Rattle.mp_clients.proofs.Ending.{untold_of}
use Rattle.mp_clients.proofs.Hearing.{heard_forbidden, heard, heard_nothing}
use Rattle.mp_clients.proofs.answering.answer_ask.Goals as goal

pub returns-in-Some-clause-ok : goal.returns-in-Some-clause-ok
returns-in-Some-clause-ok g c =
    heard_forbidden g.N.PoolName.accepts g.N.PoolName.callers c.args.conversation.now (to_ask c.args.ask) _
    (subst (λ k. may_ask k (to_ask c.args.ask) ≡ false) c.caller.ensures c.in-Some.ensures.some) c.answer_bad.ensures

pub returns-in-Ok-clause-ok : goal.returns-in-Ok-clause-ok
returns-in-Ok-clause-ok g c =
    heard g.N.PoolName.accepts g.N.PoolName.callers c.args.conversation.now (to_ask c.args.ask) _ c.take.new.self
    (subst (λ k. may_ask k (to_ask c.args.ask) ≡ true) c.caller.ensures c.in_default.ensures.none) c.in-Ok.ensures.ok

pub returns-in-Err-NoMemory-clause-ok : goal.returns-in-Err-NoMemory-clause-ok
returns-in-Err-NoMemory-clause-ok g c =
    heard_nothing g.N.PoolName.accepts g.N.PoolName.callers c.args.conversation.now (to_ask c.args.ask) _ c.take.new.self
    (subst (λ k. may_ask k (to_ask c.args.ask) ≡ true) c.caller.ensures c.in_default.ensures.none) refl
    (subst (IsStopped g.N.PoolName.accepts g.N.PoolName.callers (IsTaken g.N.PoolName.accepts g.N.PoolName.callers c.args.conversation.now (to_ask c.args.ask)) c.args.conversation.now c.take.new.self) c.in-Err-NoMemory.field-0-is c.in-Err-NoMemory.ensures.err)

pub returns-in-Err-Untold-clause-err : goal.returns-in-Err-Untold-clause-err
returns-in-Err-Untold-clause-err g c =
    untold_of g.N.PoolName.accepts g.N.PoolName.callers c.args.conversation.now c.take.new.self (to_ask c.args.ask)
    (subst (IsStopped g.N.PoolName.accepts g.N.PoolName.callers (IsTaken g.N.PoolName.accepts g.N.PoolName.callers c.args.conversation.now (to_ask c.args.ask)) c.args.conversation.now c.take.new.self) c.in-Err-Untold.field-0-is c.in-Err-Untold.ensures.err)
