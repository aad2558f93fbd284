use Rattle.std.proofs.Common.{◌≡◌, true, false, refl, sym, ap, subst, ◌∙◌}
use Rattle.std.specs.Prelude.{All}
use Rattle.std.proofs.lemmas.List.Elements.{All-more}
use Rattle.std.proofs.lemmas.List.{take_all}
use Rattle.mp_history.specs.Log.{Log, Begins}
use Rattle.mp_mempool.specs.Pass.{Pass}
use Rattle.mp_mempool.specs.Answers.{IsForeign}
use Rattle.mp_mempool.specs.Successor.{IsKnownTo}
use Rattle.mp_mempool.proofs.Entries.{foreign_told}
use Rattle.mp_clients.specs.Service.{HasSeenOf, KnowsAllOf}
use Rattle.mp_clients.proofs.settling.know_all.Goals as goal
use Rattle.mp_clients.proofs.settling.know_all.Goals.{then-is_known, else-is_known}

pub loop-finished-preserved : goal.loop-finished-preserved
loop-finished-preserved g c =
    let log = c.args.locked.now.log in
    let fs = c.args.done.now in
    let i = c.loop-finished.finished-index in
    let x = c.finished-item.result in
    let knows = c.is_known_to-knows in
    let same = knows.ensures.same ∙ c.loop-finished.invariant.0 in
    let here : (Q : Pass → Log → Type 0) → Q c.pass.result.now knows.new.self.log → Q x.conversation.client.pass log =
    λ Q q. subst (Q x.conversation.client.pass) (ap (λ l. l.log) same) (subst (λ p. Q p knows.new.self.log) c.pass.ensures q) in (
      same,
      All-more (HasSeenOf log) fs i x c.loop-finished-test.true c.loop-finished.invariant.1
          (subst (HasSeenOf log) c.finished-item.is (here (λ p l. Begins p.front l) knows.ensures.begins)),
      elim c.if-is_known.branch [
        | then-is_known w ↦ (λ e. All-more (KnowsAllOf log) fs i x c.loop-finished-test.true (c.loop-finished.invariant.2 w.if-is_known.true)
            (subst (KnowsAllOf log) c.finished-item.is (here (λ p l. IsKnownTo l p) (record { begins = knows.ensures.begins; known = knows.ensures.known (sym w.is_known-is ∙ e) }))))
        | else-is_known w ↦ (λ e. Prim.cc)
      ],
      elim c.if-is_known.branch [
        | then-is_known w ↦ (λ e. (i, x, c.loop-finished-test.true, sym c.finished-item.is, here IsForeign (foreign_told c.pass.result.now knows.new.self.log knows.new.self.log knows.ensures.own knows.ensures.begins (knows.ensures.foreign (sym w.is_known-is ∙ e)) refl)))
        | else-is_known w ↦ (λ e. c.loop-finished.invariant.3 w.if-is_known.false)
      ],
    )

pub returns-clause-seen : goal.returns-clause-seen
returns-clause-seen g c =
    subst (All (HasSeenOf c.args.locked.now.log)) (take_all c.loop-finished.finished-index c.args.done.now c.loop-finished-test.false) c.loop-finished.invariant.1

pub returns-clause-known : goal.returns-clause-known
returns-clause-known g c =
    λ e. subst (All (KnowsAllOf c.args.locked.now.log)) (take_all c.loop-finished.finished-index c.args.done.now c.loop-finished-test.false) (c.loop-finished.invariant.2 e)
