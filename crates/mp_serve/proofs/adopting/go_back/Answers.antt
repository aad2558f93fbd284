use Rattle.std.proofs.Common.{◌≡◌, List, take, drop, sym, ap, subst, ◌∙◌}
use Rattle.mp_tx.specs.Ledger.{LedgerState}
use Rattle.mp_seqpool.specs.Pool.{Pool}
use Rattle.mp_signatures.specs.Scheme.{accepted_by}
use Rattle.mp_serve.specs.declared.former.Former.{Former}
use Rattle.mp_serve.specs.Inside.Former.{earliest, states_of, CanAllGoBack}
use Rattle.mp_serve.proofs.Pools.{ledger-synced}
use Rattle.mp_serve.proofs.Formers.{earliest-behind, can-behind, states-take, can-take}
use Rattle.mp_serve.proofs.adopting.go_back.Goals as goal

pub earliest-requires : goal.earliest-requires
earliest-requires c =
    can-behind c.args.left c.args.formers.now.items c.deref.result.now c.args.pool.now.pool.ledger c.ledger.result.now c.deref.ensures.value c.ledger.ensures c.requires.can

pub returns-clause-formers : goal.returns-clause-formers
returns-clause-formers c =
    let fs : List Former = c.args.formers.now.items in
    let p : Pool = c.args.pool.now.pool in
    let new : LedgerState = c.obey.new.pool.pool.ledger in
    let same : new ≡ earliest (drop c.args.left fs) p.ledger =
    ap (λ (q : Pool). q.ledger) c.in_ok-text.ensures.pool ∙ ledger-synced (accepted_by c.args.signatures.now) p c.in_ok-ledger.ledger c.requires.ready.change
    ∙ c.in_ok-ledger.ensures ∙ earliest-behind c.args.left fs c.deref.result.now p.ledger c.ledger.result.now c.deref.ensures.value c.ledger.ensures in
    ap (λ (gs : List Former). states_of gs new) c.truncate.ensures.items ∙ ap (states_of (take c.args.left fs)) same ∙ states-take c.args.left fs p.ledger

pub returns-clause-can : goal.returns-clause-can
returns-clause-can c =
    let fs : List Former = c.args.formers.now.items in
    let p : Pool = c.args.pool.now.pool in
    let new : LedgerState = c.obey.new.pool.pool.ledger in
    let same : new ≡ earliest (drop c.args.left fs) p.ledger =
    ap (λ (q : Pool). q.ledger) c.in_ok-text.ensures.pool ∙ ledger-synced (accepted_by c.args.signatures.now) p c.in_ok-ledger.ledger c.requires.ready.change
    ∙ c.in_ok-ledger.ensures ∙ earliest-behind c.args.left fs c.deref.result.now p.ledger c.ledger.result.now c.deref.ensures.value c.ledger.ensures in
    subst (λ (gs : List Former). CanAllGoBack gs new) (sym c.truncate.ensures.items)
    (subst (CanAllGoBack (take c.args.left fs)) (sym same) (can-take c.args.left fs p.ledger c.requires.can))
