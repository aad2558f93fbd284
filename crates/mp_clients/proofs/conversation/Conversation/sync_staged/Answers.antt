use Rattle.std.proofs.Common.{◌≡◌, subst, rules}
use Rattle.std.specs.Prelude.{IfOk, IfErr}
use Rattle.std.specs.Arc.{arc_value}
use Rattle.mp_tx.specs.Ledger.{LedgerState}
use Rattle.mp_session.specs.Settings.{salt_of}
use Rattle.mp_serve.specs.declared.used.Used.TheVariants.{Outputs}
use Rattle.mp_serve.specs.Staged.{no_outputs, staged_ledger}
use Rattle.mp_serve.specs.Inside.Answer.{text_of}
use Rattle.mp_clients.specs.Answers.{IsSynced}
use Rattle.mp_clients.specs.Inside.Steps.{IsStopped}
use Rattle.mp_clients.proofs.conversation.Conversation.sync_staged.Goals as goal

pub returns-clause-ok : goal.returns-clause-ok
returns-clause-ok g c =
    let accepts = g.N.PoolName.accepts in
    let callers = g.N.PoolName.callers in
    let s = c.args.self.now in
    let same : c.in-Ok-ledger_at.ledger ≡ staged_ledger (arc_value s.settings) s.staged c.args.tick c.args.block_bytes.now = search rules in
    let none : c.in-Ok.none ≡ no_outputs (salt_of (arc_value s.settings)) = search rules in
    subst (λ (n : LedgerState). IfOk c.adopt.result (λ a. IsSynced accepts callers s (staged_ledger (arc_value s.settings) s.staged c.args.tick c.args.block_bytes.now) (Outputs n) (text_of a) c.adopt.new.self)) none
    (subst (λ (l : LedgerState). IfOk c.adopt.result (λ a. IsSynced accepts callers s l (Outputs c.in-Ok.none) (text_of a) c.adopt.new.self)) same c.adopt.ensures.ok)

pub returns-clause-err : goal.returns-clause-err
returns-clause-err g c =
    let accepts = g.N.PoolName.accepts in
    let callers = g.N.PoolName.callers in
    let s = c.args.self.now in
    let same : c.in-Ok-ledger_at.ledger ≡ staged_ledger (arc_value s.settings) s.staged c.args.tick c.args.block_bytes.now = search rules in
    let none : c.in-Ok.none ≡ no_outputs (salt_of (arc_value s.settings)) = search rules in
    subst (λ (n : LedgerState). IfErr c.adopt.result (IsStopped accepts callers (IsSynced accepts callers s (staged_ledger (arc_value s.settings) s.staged c.args.tick c.args.block_bytes.now) (Outputs n)) s c.adopt.new.self)) none
    (subst (λ (l : LedgerState). IfErr c.adopt.result (IsStopped accepts callers (IsSynced accepts callers s l (Outputs c.in-Ok.none)) s c.adopt.new.self)) same c.adopt.ensures.err)
