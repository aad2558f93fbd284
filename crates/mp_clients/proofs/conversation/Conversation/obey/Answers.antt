use Rattle.std.proofs.Common.{◌≡◌, sym, subst, rules}
use Rattle.std.specs.Prelude.{IfOk, IfErr, List, ℕ}
use Rattle.std.specs.Arc.{arc_value}
use Rattle.mp_tx.specs.Ledger.{LedgerState}
use Rattle.mp_seqpool.specs.Command.{Remove}
use Rattle.mp_lines.specs.declared.line.Line as code
use Rattle.mp_lines.specs.Inside.Line.{to_line}
use Rattle.mp_session.specs.Ledgers.{ledger_at}
use Rattle.mp_serve.specs.Ask.{Does}
use Rattle.mp_serve.specs.Inside.Answer.{text_of}
use Rattle.mp_serve.specs.declared.used.Used.TheVariants.{Nothing}
use Rattle.mp_clients.specs.Answers.{IsTaken, IsDone, IsSynced, moved}
use Rattle.mp_clients.specs.Inside.Steps.{IsStopped}
use Rattle.mp_clients.proofs.conversation.Conversation.obey.Goals as goal

pub returns-in-Submit-clause-err : goal.returns-in-Submit-clause-err
returns-in-Submit-clause-err g c =
    let accepts = g.N.PoolName.accepts in
    let callers = g.N.PoolName.callers in
    subst (λ (l : code.Line). IfErr c.change.result (IsStopped accepts callers (IsTaken accepts callers c.args.self.now (Does (to_line l))) c.args.self.now c.change.new.self)) (sym c.in-Submit.is) c.change.ensures.err

pub returns-in-Ok-clause-err : goal.returns-in-Ok-clause-err
returns-in-Ok-clause-err g c =
    let accepts = g.N.PoolName.accepts in
    let callers = g.N.PoolName.callers in
    let s = c.args.self.now in
    let same : arc_value c.in-Ok.ids ≡ c.in-Remove.ids.items = search rules in
    let made = subst (λ (ids : List (List ℕ)). IfErr c.change-in-Remove.result (IsStopped accepts callers (IsDone accepts callers s (Remove ids) (moved s.client)) s c.change-in-Remove.new.self)) same c.change-in-Remove.ensures.err in
    subst (λ (l : code.Line). IfErr c.change-in-Remove.result (IsStopped accepts callers (IsTaken accepts callers s (Does (to_line l))) s c.change-in-Remove.new.self)) (sym c.in-Remove.is) made

pub returns-in-Ok-ledger_at-clause-err : goal.returns-in-Ok-ledger_at-clause-err
returns-in-Ok-ledger_at-clause-err g c =
    let accepts = g.N.PoolName.accepts in
    let callers = g.N.PoolName.callers in
    let s = c.args.self.now in
    let same : c.in-Ok-ledger_at.ledger ≡ ledger_at (arc_value s.settings) c.in-Sync.ledger = search rules in
    let made = subst (λ (l : LedgerState). IfErr c.adopt.result (IsStopped accepts callers (IsSynced accepts callers s l Nothing) s c.adopt.new.self)) same c.adopt.ensures.err in
    subst (λ (l : code.Line). IfErr c.adopt.result (IsStopped accepts callers (IsTaken accepts callers s (Does (to_line l))) s c.adopt.new.self)) (sym c.in-Sync.is) made

pub returns-in-Ok-ledger_at-clause-ok : goal.returns-in-Ok-ledger_at-clause-ok
returns-in-Ok-ledger_at-clause-ok g c =
    let accepts = g.N.PoolName.accepts in
    let callers = g.N.PoolName.callers in
    let s = c.args.self.now in
    let same : c.in-Ok-ledger_at.ledger ≡ ledger_at (arc_value s.settings) c.in-Sync.ledger = search rules in
    let made = subst (λ (l : LedgerState). IfOk c.adopt.result (λ a. IsSynced accepts callers s l Nothing (text_of a) c.adopt.new.self)) same c.adopt.ensures.ok in
    subst (λ (l : code.Line). IfOk c.adopt.result (λ a. IsTaken accepts callers s (Does (to_line l)) (text_of a) c.adopt.new.self)) (sym c.in-Sync.is) made
