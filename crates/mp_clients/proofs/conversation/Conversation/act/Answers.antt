use Rattle.std.proofs.Common.{◌≡◌, sym, subst, rules}
use Rattle.std.specs.Prelude.{IfErr, List, ℕ}
use Rattle.mp_tx.specs.Reading.{transaction_of}
use Rattle.mp_serve.specs.declared.ask.Ask as code
use Rattle.mp_serve.specs.Inside.Ask.{to_ask}
use Rattle.mp_clients.specs.Answers.{IsTaken, IsGiven}
use Rattle.mp_clients.specs.Inside.Steps.{IsStopped}
use Rattle.mp_clients.proofs.conversation.Conversation.act.Goals as goal

pub returns-in-Does-clause-err : goal.returns-in-Does-clause-err
returns-in-Does-clause-err g c =
    let accepts = g.N.PoolName.accepts in
    let callers = g.N.PoolName.callers in
    subst (λ (a : code.Ask). IfErr c.does.result (IsStopped accepts callers (IsTaken accepts callers c.args.self.now (to_ask a)) c.args.self.now c.does.new.self)) (sym c.in-Does.is) c.does.ensures.err

pub returns-in-Submits-clause-err : goal.returns-in-Submits-clause-err
returns-in-Submits-clause-err g c =
    let accepts = g.N.PoolName.accepts in
    let callers = g.N.PoolName.callers in
    subst (λ (a : code.Ask). IfErr c.submit.result (IsStopped accepts callers (IsTaken accepts callers c.args.self.now (to_ask a)) c.args.self.now c.submit.new.self)) (sym c.in-Submits.is) c.submit.ensures.err

pub returns-in-Extends-clause-err : goal.returns-in-Extends-clause-err
returns-in-Extends-clause-err g c =
    let accepts = g.N.PoolName.accepts in
    let callers = g.N.PoolName.callers in
    subst (λ (a : code.Ask). IfErr c.extend.result (IsStopped accepts callers (IsTaken accepts callers c.args.self.now (to_ask a)) c.args.self.now c.extend.new.self)) (sym c.in-Extends.is) c.extend.ensures.err

pub returns-in-Returns-clause-err : goal.returns-in-Returns-clause-err
returns-in-Returns-clause-err g c =
    let accepts = g.N.PoolName.accepts in
    let callers = g.N.PoolName.callers in
    subst (λ (a : code.Ask). IfErr c.return_by.result (IsStopped accepts callers (IsTaken accepts callers c.args.self.now (to_ask a)) c.args.self.now c.return_by.new.self)) (sym c.in-Returns.is) c.return_by.ensures.err

pub returns-in-SubmitsBytes-clause-err : goal.returns-in-SubmitsBytes-clause-err
returns-in-SubmitsBytes-clause-err g c =
    let accepts = g.N.PoolName.accepts in
    let callers = g.N.PoolName.callers in
    let same : c.deref.result.now ≡ c.in-SubmitsBytes.bytes.items = search rules in
    let given = subst (λ (b : List ℕ). IfErr c.give.result (IsStopped accepts callers (IsGiven accepts callers c.args.self.now (transaction_of b)) c.args.self.now c.give.new.self)) same c.give.ensures.err in
    subst (λ (a : code.Ask). IfErr c.give.result (IsStopped accepts callers (IsTaken accepts callers c.args.self.now (to_ask a)) c.args.self.now c.give.new.self)) (sym c.in-SubmitsBytes.is) given

pub returns-in-Syncs-clause-err : goal.returns-in-Syncs-clause-err
returns-in-Syncs-clause-err g c =
    let accepts = g.N.PoolName.accepts in
    let callers = g.N.PoolName.callers in
    subst (λ (a : code.Ask). IfErr c.sync_staged.result (IsStopped accepts callers (IsTaken accepts callers c.args.self.now (to_ask a)) c.args.self.now c.sync_staged.new.self)) (sym c.in-Syncs.is) c.sync_staged.ensures.err
