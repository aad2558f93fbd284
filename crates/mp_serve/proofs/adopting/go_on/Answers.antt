use Rattle.std.proofs.Common.{◌≡◌, List, [], ◌∷◌, ◌++◌, sym, ap, subst, ◌∙◌}
use Rattle.mp_tx.specs.Ledger.{LedgerState}
use Rattle.mp_seqpool.specs.Pool.{Pool}
use Rattle.mp_signatures.specs.Scheme.{accepted_by}
use Rattle.mp_serve.specs.ServedPool.{latest}
use Rattle.mp_serve.specs.declared.former.Former.{Former}
use Rattle.mp_serve.specs.Inside.Former.{states_of, CanAllGoBack}
use Rattle.mp_serve.proofs.Pools.{ledger-synced}
use Rattle.mp_serve.proofs.Formers.{states-latest, can-latest}
use Rattle.mp_serve.proofs.adopting.go_on.Goals as goal

pub returns-in-Ok-clause-formers : goal.returns-in-Ok-clause-formers
returns-in-Ok-clause-formers c =
    let fs : List Former = c.args.formers.now.items in
    let p : Pool = c.args.pool.now.pool in
    let new : LedgerState = c.obey.new.pool.pool.ledger in
    let same : new ≡ c.args.ledger = ap (λ (q : Pool). q.ledger) c.in-Ok.ensures.pool ∙ ledger-synced (accepted_by c.args.signatures.now) p c.args.ledger c.requires.ready.change in
    let kept : c.keep_latest.new.formers.items ≡ latest (fs ++ c.args.former ∷ []) = c.keep_latest.ensures.latest ∙ ap latest c.in_ok-push.ensures.items in
    ap (λ (gs : List Former). states_of gs new) kept ∙ ap (states_of (latest (fs ++ c.args.former ∷ []))) same
    ∙ states-latest fs c.args.former c.args.ledger p.ledger c.requires.before

pub returns-in-Ok-clause-can : goal.returns-in-Ok-clause-can
returns-in-Ok-clause-can c =
    let fs : List Former = c.args.formers.now.items in
    let p : Pool = c.args.pool.now.pool in
    let new : LedgerState = c.obey.new.pool.pool.ledger in
    let same : new ≡ c.args.ledger = ap (λ (q : Pool). q.ledger) c.in-Ok.ensures.pool ∙ ledger-synced (accepted_by c.args.signatures.now) p c.args.ledger c.requires.ready.change in
    let kept : c.keep_latest.new.formers.items ≡ latest (fs ++ c.args.former ∷ []) = c.keep_latest.ensures.latest ∙ ap latest c.in_ok-push.ensures.items in
    subst (λ (gs : List Former). CanAllGoBack gs new) (sym kept)
    (subst (CanAllGoBack (latest (fs ++ c.args.former ∷ []))) (sym same) (can-latest fs c.args.former c.args.ledger p.ledger c.requires.can c.requires.before))
